use Rattle.std.proofs.Common.{length}
use Rattle.udfs_memory.proofs.kept.+stored_bytes.Given as goal

abbrev pub decreases-stored_bytes : goal.decreases-stored_bytes
decreases-stored_bytes l = length l.stored.now
