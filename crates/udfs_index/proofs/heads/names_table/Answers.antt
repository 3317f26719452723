use Rattle.std.proofs.Common.{rules}
use Rattle.udfs_reading.specs.Format.{number}
use Rattle.udfs_reading.specs.PacketFile.{packet_magic}
use Rattle.udfs_index.proofs.heads.names_table.Goals as goal

pub returns : goal.returns
unfolding packet_magic number
returns c = search rules
