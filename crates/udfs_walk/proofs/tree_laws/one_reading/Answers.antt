use Rattle.udfs_walk.proofs.TreePublicLaws.{one_reading as law}
use Rattle.udfs_walk.proofs.tree_laws.one_reading.Goals as goal

pub returns : goal.returns
returns c = law
