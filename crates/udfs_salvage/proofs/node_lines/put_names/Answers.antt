use Rattle.std.proofs.Common.{sym, arith, append-nil}
use Rattle.udfs_salvage.specs.NodeTexts.{name_text}
use Rattle.udfs_reading.proofs.PrintingPublicLaws.{puts_none}
use Rattle.udfs_salvage.proofs.PathNames.{next_name, some_name}
use Rattle.udfs_salvage.proofs.Putting.{puts_same, puts_with}
use Rattle.udfs_salvage.proofs.node_lines.put_names.Goals.{in-Some, in_default}
use Rattle.udfs_salvage.proofs.node_lines.put_names.Goals as goal

pub loop-index-init : goal.loop-index-init
loop-index-init g c = puts_none _ _

pub loop-index-preserved : goal.loop-index-preserved
loop-index-preserved g c =
    let path = c.args.path.now in
    let i = c.loop-index.index in
    elim c.match-get.branch [
      | in-Some w ↦ rw (w.out-is, w.sink-is) (puts_same (sym (next_name path i w.in-Some.name.now w.in-Some.ensures))
          (puts_with c.loop-index.invariant (puts_same (sym (append-nil (name_text w.in-Some.name.now))) w.put_name.ensures)))
      | in_default w ↦ absurd (some_name path i (let h = c.loop-index-test.true in let e = c.len-index-end.ensures in omega (arith, h, e)) w.in_default.ensures)
    ]
