use Rattle.std.proofs.Common.{length}
use Rattle.udfs_memory.proofs.kept.+find.Given as goal

abbrev pub decreases-find : goal.decreases-find
decreases-find l = length l.kept.now
