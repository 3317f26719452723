use Rattle.udfs_lawfulness.proofs.PublicLaws.{directories_are_by_the_tables as law}
use Rattle.udfs_lawfulness.proofs.ecma_laws.directories_are_by_the_tables.Goals as goal

pub returns : goal.returns
returns c = law
