use Rattle.udfs_walk.proofs.TreePublicLaws.{chosen_is_wanted as law}
use Rattle.udfs_walk.proofs.known_laws.chosen_is_wanted.Goals as goal

pub returns : goal.returns
returns c = law
