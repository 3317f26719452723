use Rattle.std.proofs.Common.{length}
use Rattle.udfs_overview.proofs.repeating.+past_taken.Given as goal

abbrev pub decreases-past_taken : goal.decreases-past_taken
decreases-past_taken l = length l.paths.now
