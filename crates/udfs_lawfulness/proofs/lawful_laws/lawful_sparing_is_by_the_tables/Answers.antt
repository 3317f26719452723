use Rattle.udfs_lawfulness.proofs.SparingByTables.{sparing_by_tables as law}
use Rattle.udfs_lawfulness.proofs.lawful_laws.lawful_sparing_is_by_the_tables.Goals as goal

pub returns : goal.returns
returns c = law
