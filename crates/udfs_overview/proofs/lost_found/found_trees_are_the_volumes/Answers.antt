use Rattle.udfs_overview.proofs.LostVolumeLaws.{found_trees_are_the_volumes as law}
use Rattle.udfs_overview.proofs.lost_found.found_trees_are_the_volumes.Goals as goal

pub returns : goal.returns
returns c = law
