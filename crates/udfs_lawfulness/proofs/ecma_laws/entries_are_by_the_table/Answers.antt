use Rattle.udfs_lawfulness.proofs.PublicLaws.{entries_are_by_the_table as law}
use Rattle.udfs_lawfulness.proofs.ecma_laws.entries_are_by_the_table.Goals as goal

pub returns : goal.returns
returns c = law
