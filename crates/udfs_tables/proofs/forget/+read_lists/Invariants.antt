use Rattle.std.proofs.Common.{length}
use Rattle.udfs_tables.proofs.forget.+read_lists.Given as goal

abbrev pub decreases-read_lists : goal.decreases-read_lists
decreases-read_lists g l = length l.paths.now
