use Rattle.std.proofs.Common.{length}
use Rattle.udfs_common.proofs.guard.+begins_so.Given as goal

abbrev pub decreases-begins_so : goal.decreases-begins_so
decreases-begins_so g l = length l.kind.now
