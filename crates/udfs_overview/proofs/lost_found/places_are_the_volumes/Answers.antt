use Rattle.udfs_overview.proofs.LostVolumeLaws.{places_are_the_volumes as law}
use Rattle.udfs_overview.proofs.lost_found.places_are_the_volumes.Goals as goal

pub returns : goal.returns
returns c = law
