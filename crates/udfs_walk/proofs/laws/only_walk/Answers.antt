use Rattle.udfs_walk.proofs.PublicLaws.{only_walk as law}
use Rattle.udfs_walk.proofs.laws.only_walk.Goals as goal

pub returns : goal.returns
returns c = law
