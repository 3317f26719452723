use Rattle.udfs_lawfulness.proofs.PublicLaws.{files_are_by_the_tables as law}
use Rattle.udfs_lawfulness.proofs.ecma_laws.files_are_by_the_tables.Goals as goal

pub returns : goal.returns
returns c = law
