use Rattle.udfs_walk.proofs.PublicLaws.{paths_have_parts as law}
use Rattle.udfs_walk.proofs.laws.paths_have_parts.Goals as goal

pub returns : goal.returns
returns c = law
