use Rattle.udfs_walk.proofs.TreePublicLaws.{once_per_path as law}
use Rattle.udfs_walk.proofs.tree_laws.once_per_path.Goals as goal

pub returns : goal.returns
returns c = law
