use Rattle.udfs_lawfulness.proofs.LayoutByTables.{layout_by_tables as law}
use Rattle.udfs_lawfulness.proofs.lawful_laws.lawful_layouts_are_by_the_tables.Goals as goal

pub returns : goal.returns
returns c = law
