use Rattle.std.proofs.Common.{◌-◌, replicate, refl, arith, subst}
use Rattle.std.proofs.lemmas.List.{take-replicate}
use Rattle.std.proofs.lemmas.Result.{err_from_is_err_and}
use Rattle.udfs_reading.specs.Writing.{Passed, FailedPast}
use Rattle.udfs_salvage.proofs.Pieces.{taken_none, taken_more, taken_all, taken_fails, same_split, no_same_left}
use Rattle.udfs_salvage.proofs.body_bytes.push_same.Goals as goal

pub pieces-init : goal.pieces-init
pieces-init g c = taken_none _ _ _ _ refl

pub returns-in_err-push : goal.returns-in_err-push
returns-in_err-push g c =
    let p = err_from_is_err_and c.from_residual.result c.from_residual.ensures.1 in
    let here = c.min-here.result in
    rw p.1 (taken_fails (replicate here c.args.byte) (replicate (c.pieces.left - here) c.args.byte) (same_split c.args.byte c.pieces.left here (omega arith)) c.pieces.invariant
    (subst (FailedPast _ _ _) (take-replicate here 2048 c.args.byte (omega arith)) c.in_err-push.ensures))

pub pieces-preserved : goal.pieces-preserved
pieces-preserved g c =
    let here = c.min-here.result in
    taken_more (replicate here c.args.byte) (replicate (c.pieces.left - here) c.args.byte) (same_split c.args.byte c.pieces.left here (omega arith)) c.pieces.invariant
    (subst (Passed _ _ _ _) (take-replicate here 2048 c.args.byte (omega arith)) c.in_ok-push.ensures)

pub returns : goal.returns
returns g c = taken_all (no_same_left c.args.byte c.pieces.left (omega arith)) c.pieces.invariant
