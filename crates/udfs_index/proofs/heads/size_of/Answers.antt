use Rattle.std.proofs.Common.{refl}
use Rattle.std.specs.Int.RustNames.{count_ones}
use Rattle.udfs_reading.specs.PacketReading.{size_of_blocks}
use Rattle.udfs_index.proofs.heads.size_of.Goals as goal

pub returns-clause-value : goal.returns-clause-value
unfolding size_of_blocks count_ones
returns-clause-value c = refl
