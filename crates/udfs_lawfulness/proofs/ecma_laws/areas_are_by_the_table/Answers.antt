use Rattle.udfs_lawfulness.proofs.PublicLaws.{areas_are_by_the_table as law}
use Rattle.udfs_lawfulness.proofs.ecma_laws.areas_are_by_the_table.Goals as goal

pub returns : goal.returns
returns c = law
