use Rattle.udfs_file.proofs.PublicLaws.{descriptors_are_short as law}
use Rattle.udfs_file.proofs.laws.descriptors_are_short.Goals as goal

pub returns : goal.returns
returns c = law
