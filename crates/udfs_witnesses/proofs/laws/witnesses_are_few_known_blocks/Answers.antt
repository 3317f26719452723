use Rattle.udfs_witnesses.proofs.WitnessLaws.{witnesses_are_few, witnesses_are_known, witnesses_rise}
use Rattle.udfs_witnesses.proofs.laws.witnesses_are_few_known_blocks.Goals as goal

pub returns-clause-rise : goal.returns-clause-rise
returns-clause-rise c = witnesses_rise

pub returns-clause-known : goal.returns-clause-known
returns-clause-known c = witnesses_are_known

pub returns-clause-few : goal.returns-clause-few
returns-clause-few c = witnesses_are_few
