use Rattle.std.proofs.Common.{true, false}
use Rattle.udfs_reading.specs.Inputs.{tables, inputs}
use Rattle.udfs_reading.specs.Reading.{readings}
use Rattle.udfs_reading.proofs.Outcomes.{readings_laws, tables_laws, inputs_laws}
use Rattle.udfs_reading.proofs.Public.{outcome}
use Rattle.udfs_reading.proofs.SomeOutcomes.{some_reading, some_file}
use Rattle.udfs_reading.proofs.laws.one_outcome.Goals as goal

pub returns : goal.returns
returns c = record { of_readings = outcome readings readings_laws some_reading; of_tables = outcome tables tables_laws (some_file false); of_inputs = outcome inputs inputs_laws (some_file true) }
