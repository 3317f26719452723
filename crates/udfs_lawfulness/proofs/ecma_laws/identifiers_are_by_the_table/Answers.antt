use Rattle.udfs_lawfulness.proofs.PublicLaws.{identifiers_are_by_the_table as law}
use Rattle.udfs_lawfulness.proofs.ecma_laws.identifiers_are_by_the_table.Goals as goal

pub returns : goal.returns
returns c = law
