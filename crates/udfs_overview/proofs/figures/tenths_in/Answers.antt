use Rattle.std.proofs.Common.{arith, ◌+◌, ◌*◌, ◌/◌, ◌%◌, ap, sym, ◌≡◌, ◌∙◌}
use Rattle.std.proofs.lemmas.Nat.{div-add-mod'}
use Rattle.udfs_overview.specs.Figures.{rounded}
use Rattle.udfs_overview.proofs.Rounding.{rounded_behind}
use Rattle.udfs_overview.proofs.figures.tenths_in.Goals as goal

pub returns : goal.returns
returns c =
    let b = c.unit_bytes-bytes.result in
    let n = c.args.size in
    let twice : 20 * (n % b) + b ≡ 2 * (10 * (n % b)) + b = omega arith in
    sym (ap (λ u. rounded (10 * n) u) (sym c.unit_bytes-bytes.ensures.value)
    ∙ rounded_behind (10 * n) b (n / b * 10) (10 * (n % b)) (omega (arith, c.unit_bytes-bytes.ensures.least)) (omega (arith, div-add-mod' n b))
    ∙ ap (λ m. n / b * 10 + m / (2 * b)) (sym twice))
