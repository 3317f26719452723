use Rattle.std.proofs.Common.{length}
use Rattle.udfs_extraction.proofs.manifest_place.+begins_by.Given as goal

abbrev pub decreases-begins_by : goal.decreases-begins_by
decreases-begins_by g l = length l.signs.now
