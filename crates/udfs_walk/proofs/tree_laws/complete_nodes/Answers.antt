use Rattle.udfs_walk.proofs.TreePublicLaws.{complete_nodes as law}
use Rattle.udfs_walk.proofs.tree_laws.complete_nodes.Goals as goal

pub returns : goal.returns
returns c = law
