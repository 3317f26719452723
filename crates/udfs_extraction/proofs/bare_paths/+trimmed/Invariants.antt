use Rattle.std.proofs.Common.{length}
use Rattle.udfs_extraction.proofs.bare_paths.+trimmed.Given as goal

abbrev pub decreases-trimmed : goal.decreases-trimmed
decreases-trimmed l = length l.path.now
