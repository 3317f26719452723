use Rattle.udfs_walk.proofs.TreePublicLaws.{fewer_routes as law}
use Rattle.udfs_walk.proofs.tree_laws.fewer_routes.Goals as goal

pub returns : goal.returns
returns c = law
