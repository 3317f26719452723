use Rattle.std.proofs.Common.{arith, rules}
use Rattle.udfs_overview.proofs.Rounding.{first_unit}
use Rattle.udfs_overview.proofs.figures.unit_of.Goals as goal

pub returns-else-tenths_in-ge10000-clause-value : goal.returns-else-tenths_in-ge10000-clause-value
returns-else-tenths_in-ge10000-clause-value c =
    let i = c.loop-unit.invariant in
    first_unit c.args.size c.loop-unit.unit i.some i.known i.longer (λ less. search rules)

pub returns-after-loop-unit-clause-value : goal.returns-after-loop-unit-clause-value
returns-after-loop-unit-clause-value c =
    let i = c.loop-unit.invariant in
    first_unit c.args.size c.loop-unit.unit i.some i.known i.longer (λ less. absurd (omega (arith, c.loop-unit-test.false)))
