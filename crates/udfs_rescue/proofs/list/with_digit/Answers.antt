use Rattle.std.proofs.Common.{◌+◌, ◌*◌, ◌≤◌, ◌<◌, ◌≡◌, min, false, nat_lt, arith, sym, subst, ◌∙◌}
use Rattle.std.proofs.lemmas.Bool.{lt-ltb}
use Rattle.std.proofs.lemmas.Bool.Decides.{nat_tests}
use Rattle.udfs_rescue.specs.Numbers.{digit}
use Rattle.udfs_rescue.proofs.ListLines.{number_none, number_other, number_more}
use Rattle.udfs_rescue.proofs.list.with_digit.Goals as goal

pub returns-in_default : goal.returns-in_default
returns-in_default c = λ line h. number_none c.args.byte line (sym c.in_default.is ∙ h)

pub returns-then-digit-ge10 : goal.returns-then-digit-ge10
returns-then-digit-ge10 c = λ line h.
    let above : 10 ≤ digit c.args.byte = subst (λ d. 10 ≤ d) c.digit-digit.ensures.value c.if-digit-ge10.true in
    let other : nat_lt (digit c.args.byte) 10 ≡ false = grind (arith, nat_tests, above) in
    number_other c.args.byte line other

pub returns : goal.returns
returns c = λ line h.
    let sum : c.at_most.result ≡ min (c.in-Some.number * 10 + c.digit-digit.result) 4194304 = omega (arith, c.at_most.ensures, c.from.ensures, c.from-2.ensures) in
    number_more c.args.byte c.in-Some.number c.digit-digit.result c.at_most.result line c.digit-digit.ensures.value
    (lt-ltb (digit c.args.byte) 10 (subst (λ d. d < 10) c.digit-digit.ensures.value c.if-digit-ge10.false)) (sym c.in-Some.is ∙ h) sum
