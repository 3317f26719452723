use Rattle.udfs_walk.proofs.PublicLaws.{more_routes as law}
use Rattle.udfs_walk.proofs.laws.more_routes.Goals as goal

pub returns : goal.returns
returns c = law
