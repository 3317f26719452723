use Rattle.std.proofs.Common.{rules, sym, subst}
use Rattle.std.proofs.lemmas.Result.{err_from_is_err_and}
use Rattle.udfs_reading.specs.Writing.{Passed}
use Rattle.udfs_reading.proofs.WritingLemmas.{passed_none, passed_then}
use Rattle.udfs_reading.proofs.PacketWriting.{contents_none, contents_next, blocks_fail}
use Rattle.udfs_reading.proofs.packing.write_blocks.Goals as goal

pub loop-place-init : goal.loop-place-init
loop-place-init g c = subst (Passed _ _ _ _) (sym (contents_none c.args.table.now c.args.first)) (passed_none _ _)

pub returns-in_err-write_content : goal.returns-in_err-write_content
returns-in_err-write_content g c =
    let p = err_from_is_err_and c.from_residual.result c.from_residual.ensures.1 in
    rw p.1 (blocks_fail c.args.table.now c.args.first c.loop-place.place (search rules) c.loop-place.invariant (rw (sym c.state.ensures.state) c.in_err-write_content.ensures))

pub loop-place-preserved : goal.loop-place-preserved
loop-place-preserved g c =
    subst (Passed _ _ _ _) (sym (contents_next c.args.table.now c.args.first c.loop-place.place)) (passed_then c.loop-place.invariant (rw (sym c.state.ensures.state) c.in_ok-write_content.ensures))
