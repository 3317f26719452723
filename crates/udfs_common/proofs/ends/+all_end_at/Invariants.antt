use Rattle.std.proofs.Common.{length}
use Rattle.udfs_common.proofs.ends.+all_end_at.Given as goal

abbrev pub decreases-all_end_at : goal.decreases-all_end_at
decreases-all_end_at g l = length l.inputs.now
