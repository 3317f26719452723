use Rattle.std.proofs.Common.{refl}
use Rattle.udfs_index.proofs.laws.bytes_in_memory_are_told.Goals as goal

pub returns-clause-told : goal.returns-clause-told
returns-clause-told c s = (s.bytes.now, refl)
