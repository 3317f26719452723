use Rattle.udfs_space.proofs.Standing.{old_place_law}
use Rattle.udfs_space.proofs.laws.old_places_are_not_read.Goals as goal

pub returns : goal.returns
returns c = old_place_law
