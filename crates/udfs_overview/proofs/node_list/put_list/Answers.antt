use Rattle.std.proofs.Common.{◌++◌, subst}
use Rattle.std.specs.String.{string_bytes}
use Rattle.udfs_salvage.specs.Found.{volume_now}
use Rattle.udfs_salvage.specs.StorePrinting.{PassesOnBy}
use Rattle.udfs_overview.specs.NodeLists.{bare_lines, header_line, list_text}
use Rattle.udfs_overview.proofs.node_list.put_list.Goals as goal

pub returns-clause-printed : goal.returns-clause-printed
unfolding list_text
returns-clause-printed g c told =
    let W = g.W.Sink in
    let s = c.args.survey.now in
    subst (λ ns. PassesOnBy (W.stream c.args.sink.now) (W.stream c.put_parts.new.sink) (string_bytes c.args.text.now) (string_bytes c.put_parts.new.text)
    (header_line c.args.form ++ bare_lines c.args.form (g.B.BlockStore.states s.table.now) (volume_now s.volume) ns) c.put_parts.result) c.deref.ensures.value (c.put_parts.ensures.printed told)
