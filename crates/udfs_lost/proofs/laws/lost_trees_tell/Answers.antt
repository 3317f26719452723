use Rattle.udfs_lost.proofs.PublicLaws.{lost_trees_tell as law}
use Rattle.udfs_lost.proofs.laws.lost_trees_tell.Goals as goal

pub returns : goal.returns
returns c = law
