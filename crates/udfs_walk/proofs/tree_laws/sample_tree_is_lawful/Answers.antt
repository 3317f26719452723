use Rattle.udfs_walk.proofs.TreePublicLaws.{sample_tree_is_lawful as law}
use Rattle.udfs_walk.proofs.tree_laws.sample_tree_is_lawful.Goals as goal

pub returns : goal.returns
returns c = law
