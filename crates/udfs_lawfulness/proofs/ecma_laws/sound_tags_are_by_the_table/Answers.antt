use Rattle.udfs_lawfulness.proofs.PublicLaws.{sound_tags_are_by_the_table as law}
use Rattle.udfs_lawfulness.proofs.ecma_laws.sound_tags_are_by_the_table.Goals as goal

pub returns : goal.returns
returns c = law
