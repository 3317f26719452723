use Rattle.udfs_lawfulness.proofs.PublicLaws.{long_descriptors_are_by_the_table as law}
use Rattle.udfs_lawfulness.proofs.ecma_laws.long_descriptors_are_by_the_table.Goals as goal

pub returns : goal.returns
returns c = law
