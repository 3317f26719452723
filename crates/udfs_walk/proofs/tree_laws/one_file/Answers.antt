use Rattle.udfs_walk.proofs.TreePublicLaws.{one_file as law}
use Rattle.udfs_walk.proofs.tree_laws.one_file.Goals as goal

pub returns : goal.returns
returns c = law
