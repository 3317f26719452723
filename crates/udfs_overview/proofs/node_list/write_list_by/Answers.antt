use Rattle.std.proofs.Common.{◌++◌, subst}
use Rattle.udfs_salvage.specs.Found.{volume_now}
use Rattle.udfs_overview.specs.NodeLists.{bare_lines, header_line, list_text}
use Rattle.udfs_salvage.specs.StorePrinting.{PrintsBy}
use Rattle.udfs_overview.proofs.node_list.write_list_by.Goals as goal

pub returns-clause-printed : goal.returns-clause-printed
unfolding list_text
returns-clause-printed g c told =
    let W = g.W.Sink in
    let s = c.args.survey.now in
    subst (λ ns. PrintsBy (W.stream c.args.sink.now) (W.stream c.write_parts.new.sink) (header_line c.args.form ++ bare_lines c.args.form (g.B.BlockStore.states s.table.now) (volume_now s.volume) ns) c.write_parts.result)
    c.deref.ensures.value (c.write_parts.ensures.printed told)
