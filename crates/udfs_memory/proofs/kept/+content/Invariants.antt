use Rattle.std.proofs.Common.{length}
use Rattle.udfs_memory.proofs.kept.+content.Given as goal

abbrev pub decreases-content : goal.decreases-content
decreases-content l = length l.kept.now
