use Rattle.udfs_lawfulness.proofs.PublicLaws.{extents_of_the_volume_are_by_the_table as law}
use Rattle.udfs_lawfulness.proofs.ecma_laws.extents_of_the_volume_are_by_the_table.Goals as goal

pub returns : goal.returns
returns c = law
