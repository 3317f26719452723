use Rattle.std.proofs.Common.{arith}
use Rattle.std.proofs.lemmas.Result.{err_from_is_err_and}
use Rattle.udfs_rescue.proofs.MapText.{digits_taken, digits_fail, digit_fails}
use Rattle.udfs_rescue.proofs.writing.+write_digits.Goals as goal

pub returns-in_err-write_digits : goal.returns-in_err-write_digits
returns-in_err-write_digits g t c =
    let p = err_from_is_err_and c.from_residual.result c.from_residual.ensures.1 in
    rw p.1 (digits_fail c.args.count c.args.n (λ e. omega (arith, e, c.if-count-eq0.false)) c.in_err-write_digits.ensures)

pub returns-in_err-push : goal.returns-in_err-push
returns-in_err-push g t c =
    let p = err_from_is_err_and c.from_residual-in_err-push.result c.from_residual-in_err-push.ensures.1 in
    rw p.1 (digit_fails c.args.count c.args.n c.hex_digit.result (λ e. omega (arith, e, c.if-count-eq0.false)) c.hex_digit.ensures c.in_ok-write_digits.ensures c.in_err-push.ensures)

pub returns : goal.returns
returns g t c = digits_taken c.args.count c.args.n c.hex_digit.result (λ e. omega (arith, e, c.if-count-eq0.false)) c.hex_digit.ensures c.in_ok-write_digits.ensures c.in_ok-push.ensures
