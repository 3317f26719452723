use Rattle.udfs_lost.proofs.PublicLaws.{needed_below as law}
use Rattle.udfs_lost.proofs.laws.needed_below.Goals as goal

pub returns : goal.returns
returns c = law
