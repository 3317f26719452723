use Rattle.std.proofs.Common.{arith, ◌+◌, ◌*◌, ◌∙◌, ap, sym}
use Rattle.udfs_overview.proofs.Rounding.{rounded_behind, rounded_down, rounded_up}
use Rattle.udfs_overview.proofs.figures.thousandths.Goals as goal

pub returns-then-third-whole-clause-value : goal.returns-then-third-whole-clause-value
returns-then-third-whole-clause-value c =
    let down = c.ten_times-hundreds.result.0 * 100 + c.ten_times-tens.result.0 * 10 + c.ten_times-ones.result.0 in
    let third = c.ten_times-ones.result.1 in
    sym (rounded_behind (1000 * c.args.part) c.args.whole down third (omega arith)
    (omega (arith, c.ten_times-hundreds.ensures.value, c.ten_times-tens.ensures.value, c.ten_times-ones.ensures.value))
    ∙ ap (λ x. down + x) (rounded_up third c.args.whole c.ten_times-ones.ensures.left (omega (arith, c.if-third-whole.true, c.ten_times-ones.ensures.left))))

pub returns-else-third-whole-clause-value : goal.returns-else-third-whole-clause-value
returns-else-third-whole-clause-value c =
    let down = c.ten_times-hundreds.result.0 * 100 + c.ten_times-tens.result.0 * 10 + c.ten_times-ones.result.0 in
    let third = c.ten_times-ones.result.1 in
    sym (rounded_behind (1000 * c.args.part) c.args.whole down third (omega arith)
    (omega (arith, c.ten_times-hundreds.ensures.value, c.ten_times-tens.ensures.value, c.ten_times-ones.ensures.value))
    ∙ ap (λ x. down + x) (rounded_down third c.args.whole (omega (arith, c.if-third-whole.false, c.ten_times-ones.ensures.left)))
    ∙ omega arith)
