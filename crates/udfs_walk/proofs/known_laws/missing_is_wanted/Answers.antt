use Rattle.udfs_walk.proofs.TreePublicLaws.{missing_is_wanted as law}
use Rattle.udfs_walk.proofs.known_laws.missing_is_wanted.Goals as goal

pub returns : goal.returns
returns c = law
