use Rattle.udfs_walk.proofs.TreePublicLaws.{partial_nodes as law}
use Rattle.udfs_walk.proofs.tree_laws.partial_nodes.Goals as goal

pub returns : goal.returns
returns c = law
