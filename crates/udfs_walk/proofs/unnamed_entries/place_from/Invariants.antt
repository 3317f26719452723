use Rattle.std.proofs.Common.{◌-◌, length}
use Rattle.udfs_walk.proofs.unnamed_entries.place_from.Given as goal

abbrev pub decreases-passed : goal.decreases-passed
decreases-passed l = length l.keys - l.at
