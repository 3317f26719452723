use Rattle.udfs_witnesses.proofs.WitnessLaws.{named_are_witnesses, spread_are_witnesses}
use Rattle.udfs_witnesses.proofs.laws.witnesses_tell_discs_apart.Goals as goal

pub returns-clause-named : goal.returns-clause-named
returns-clause-named c = named_are_witnesses

pub returns-clause-spread : goal.returns-clause-spread
returns-clause-spread c = spread_are_witnesses
