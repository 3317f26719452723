use Rattle.std.proofs.lemmas.Result.{err_from_is_err_and}
use Rattle.udfs_rescue.proofs.MapText.{position_taken, mark_fails, position_fails}
use Rattle.udfs_rescue.proofs.writing.write_position.Goals as goal

pub returns-in_err-push : goal.returns-in_err-push
returns-in_err-push g c =
    let p = err_from_is_err_and c.from_residual.result c.from_residual.ensures.1 in
    rw p.1 (mark_fails c.args.n c.in_err-push.ensures)

pub returns-in_err-write_digits : goal.returns-in_err-write_digits
returns-in_err-write_digits g c =
    let p = err_from_is_err_and c.from_residual-in_err-write_digits.result c.from_residual-in_err-write_digits.ensures.1 in
    rw p.1 (position_fails c.args.n c.places.result c.places.ensures c.in_ok-push.ensures c.in_err-write_digits.ensures)

pub returns : goal.returns
returns g c = position_taken c.args.n c.places.result c.places.ensures c.in_ok-push.ensures c.in_ok-write_digits.ensures
