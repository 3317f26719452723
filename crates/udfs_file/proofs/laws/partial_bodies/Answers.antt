use Rattle.udfs_file.proofs.PublicLaws.{partial_bodies as law}
use Rattle.udfs_file.proofs.laws.partial_bodies.Goals as goal

pub returns : goal.returns
returns f = law
