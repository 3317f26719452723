use Rattle.std.proofs.Common.{arith, ap, sym, ◌∙◌}
use Rattle.std.specs.Option.{option_copied}
use Rattle.udfs_overview.proofs.DiscCounting.{run_ends, run_goes_on, run_is_last}
use Rattle.udfs_overview.proofs.disc_tallies.ends_of.Goals as goal

pub returns-in-Some-clause-ends : goal.returns-in-Some-clause-ends
returns-in-Some-clause-ends c = run_goes_on c.args.number c.in-Some.next.now c.args.others.now c.in-Some.ensures.value (omega (arith, c.if-from.true, c.from.ensures))

pub returns-in_default-clause-ends : goal.returns-in_default-clause-ends
returns-in_default-clause-ends c = run_ends c.args.number c.in-Some.next.now c.args.others.now c.in-Some.ensures.value (λ e. omega (arith, c.if-from.false, c.from.ensures))

pub returns-in_default-2-clause-ends : goal.returns-in_default-2-clause-ends
returns-in_default-2-clause-ends c = run_is_last c.args.number c.args.others.now (sym (ap option_copied c.in_default.is) ∙ c.first.ensures.value)
