use Rattle.std.proofs.Common.{ap}
use Rattle.udfs_lattice.specs.declared.facts.Fact.TheVariants.{Known}
use Rattle.udfs_lawfulness.specs.Filled.{bytes_or_zeros}
use Rattle.udfs_lawfulness.proofs.filled.FilledBlockStore.read.Goals as goal

pub returns-in-Known-clause-state : goal.returns-in-Known-clause-state
returns-in-Known-clause-state g c told = ap (λ s. Known (bytes_or_zeros s)) (rw c.in-Known.is at (c.in_ok-fact.ensures.state told))

pub returns-in-Unknown-clause-state : goal.returns-in-Unknown-clause-state
returns-in-Unknown-clause-state g c told = ap (λ s. Known (bytes_or_zeros s)) (rw c.in-Unknown.is at (c.in_ok-fact.ensures.state told))

pub returns-in-Conflict-clause-state : goal.returns-in-Conflict-clause-state
returns-in-Conflict-clause-state g c told = ap (λ s. Known (bytes_or_zeros s)) (rw c.in-Conflict.is at (c.in_ok-fact.ensures.state told))
