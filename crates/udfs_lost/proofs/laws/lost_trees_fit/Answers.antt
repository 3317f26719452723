use Rattle.udfs_lost.proofs.PublicLaws.{lost_trees_fit as law}
use Rattle.udfs_lost.proofs.laws.lost_trees_fit.Goals as goal

pub returns : goal.returns
returns c = law
