use Rattle.udfs_walk.proofs.PublicLaws.{routes_stand_once as law}
use Rattle.udfs_walk.proofs.laws.routes_stand_once.Goals as goal

pub returns : goal.returns
returns c = law
