use Rattle.std.proofs.Common.{◌++◌, ◌∙◌, ap, drop, subst}
use Rattle.udfs_salvage.specs.Found.{volume_now}
use Rattle.udfs_salvage.specs.Surveys.{full_nodes}
use Rattle.udfs_overview.specs.NodeLists.{header_line, lines_by, list_text}
use Rattle.udfs_salvage.specs.StorePrinting.{PrintsBy}
use Rattle.udfs_overview.proofs.SeenNodes.{full_listed}
use Rattle.udfs_overview.proofs.node_list.write_listing_by.Goals as goal

pub returns-clause-printed : goal.returns-clause-printed
unfolding list_text
returns-clause-printed g c told =
    let W = g.W.Sink in
    let l = c.args.listing.now in
    let M = g.B.BlockStore.states l.table.now in
    let volume = volume_now l.volume in
    subst (λ ns. PrintsBy (W.stream c.args.sink.now) (W.stream c.write_parts.new.sink) (header_line c.args.form ++ lines_by c.args.form M volume (drop 1 ns)) c.write_parts.result)
    (ap (full_nodes M volume) c.deref.ensures.value ∙ full_listed M volume l.nodes.items) (c.write_parts.ensures.printed told)
