use Rattle.udfs_walk.proofs.TreePublicLaws.{whole_alike as law}
use Rattle.udfs_walk.proofs.tree_laws.whole_alike.Goals as goal

pub returns : goal.returns
returns c = law
