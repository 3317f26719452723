use Rattle.udfs_file.proofs.PublicLaws.{the_tail_keeps_bodies as law}
use Rattle.udfs_file.proofs.laws.the_tail_keeps_bodies.Goals as goal

pub returns : goal.returns
returns f = law
