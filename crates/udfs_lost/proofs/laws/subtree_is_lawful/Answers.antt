use Rattle.udfs_lost.proofs.PublicLaws.{subtree_is_lawful as law}
use Rattle.udfs_lost.proofs.laws.subtree_is_lawful.Goals as goal

pub returns : goal.returns
returns c = law
