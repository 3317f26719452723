use Rattle.udfs_file.proofs.PublicLaws.{standard_bodies_are_read as law}
use Rattle.udfs_file.proofs.laws.standard_bodies_are_read.Goals as goal

pub returns : goal.returns
returns c = law
