use Rattle.udfs_file.proofs.PublicLaws.{partial_descriptors as law}
use Rattle.udfs_file.proofs.laws.partial_descriptors.Goals as goal

pub returns : goal.returns
returns f = law
