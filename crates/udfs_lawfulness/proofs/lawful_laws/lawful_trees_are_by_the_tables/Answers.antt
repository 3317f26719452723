use Rattle.udfs_lawfulness.proofs.ByTables.{tree_by_tables as law}
use Rattle.udfs_lawfulness.proofs.lawful_laws.lawful_trees_are_by_the_tables.Goals as goal

pub returns : goal.returns
returns c = law
