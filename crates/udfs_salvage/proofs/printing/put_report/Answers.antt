use Rattle.std.proofs.Common.{ap, ◌∙◌, refl}
use Rattle.udfs_lattice.specs.Tables.{state_of}
use Rattle.udfs_salvage.specs.Found.{volume_now}
use Rattle.udfs_salvage.specs.Texts.{has_two, reread_lines}
use Rattle.udfs_salvage.specs.NodeTexts.{nodes_text, report_text_by, unnamed_texts}
use Rattle.udfs_salvage.proofs.Putting.{puts_same, puts_with}
use Rattle.udfs_salvage.proofs.printing.put_report.Goals as goal

pub returns : goal.returns
unfolding report_text_by
returns g c =
    let r = c.args.report.now in
    let nodes = puts_same (ap (nodes_text 0) c.deref.ensures.value) c.put_nodes.ensures in
    let two = ap (λ two. unnamed_texts two c.deref-2.result.now) c.has_two.ensures in
    let unnamed = puts_same (two ∙ ap (unnamed_texts (has_two (volume_now r.volume))) c.deref-2.ensures.value) c.put_all_unnamed.ensures in
    let rereads = puts_same (ap (reread_lines (state_of r.table.now)) c.deref-3.ensures.value) (c.put_rereads.ensures tt) in
    puts_with (puts_with (puts_with (puts_with (c.put_head.ensures tt r.table.now refl) nodes) unnamed) rereads) c.put_end.ensures
