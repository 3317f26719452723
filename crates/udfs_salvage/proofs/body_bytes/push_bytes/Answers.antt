use Rattle.std.proofs.Common.{◌+◌, refl, drop, arith, slice_range}
use Rattle.std.proofs.lemmas.Result.{err_from_is_err_and}
use Rattle.udfs_salvage.proofs.Pieces.{taken_none, taken_more, taken_all, taken_fails, bytes_split, no_bytes_left}
use Rattle.udfs_salvage.proofs.body_bytes.push_bytes.Goals as goal

pub pieces-init : goal.pieces-init
pieces-init g c = taken_none _ _ _ _ refl

pub returns-in_err-push : goal.returns-in_err-push
returns-in_err-push g c =
    let p = err_from_is_err_and c.from_residual.result c.from_residual.ensures.1 in
    let here = c.min-here.result in
    let bytes = c.args.bytes.now in
    rw p.1 (taken_fails (slice_range bytes c.pieces.at (c.pieces.at + here)) (drop (c.pieces.at + here) bytes) (bytes_split bytes c.pieces.at here (omega arith)) c.pieces.invariant c.in_err-push.ensures)

pub pieces-preserved : goal.pieces-preserved
pieces-preserved g c =
    let here = c.min-here.result in
    let bytes = c.args.bytes.now in
    taken_more (slice_range bytes c.pieces.at (c.pieces.at + here)) (drop (c.pieces.at + here) bytes) (bytes_split bytes c.pieces.at here (omega arith)) c.pieces.invariant c.in_ok-push.ensures

pub returns : goal.returns
returns g c = taken_all (no_bytes_left c.args.bytes.now c.pieces.at (omega arith)) c.pieces.invariant
