use Rattle.udfs_lost.proofs.PublicLaws.{subtree_is_below as law}
use Rattle.udfs_lost.proofs.laws.subtree_is_below.Goals as goal

pub returns : goal.returns
returns c = law
