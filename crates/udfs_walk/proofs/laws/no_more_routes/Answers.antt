use Rattle.udfs_walk.proofs.PublicLaws.{no_more_routes as law}
use Rattle.udfs_walk.proofs.laws.no_more_routes.Goals as goal

pub returns : goal.returns
returns c = law
