use Rattle.udfs_walk.proofs.TreePublicLaws.{root_is_in_tree as law}
use Rattle.udfs_walk.proofs.tree_laws.root_is_in_tree.Goals as goal

pub returns : goal.returns
returns c = law
