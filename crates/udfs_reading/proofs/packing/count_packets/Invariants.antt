-- The packets below `next` were counted.
use Rattle.std.proofs.Common.{◌≡◌, length}
use Rattle.udfs_lattice.specs.Tables.{IsTable}
use Rattle.udfs_reading.specs.PacketFile.{packets_below}
use Rattle.udfs_reading.proofs.PacketWalk.{Walk}
use Rattle.udfs_reading.proofs.packing.count_packets.Given as goal

abbrev pub invariant-loop-block : goal.invariant-loop-block
invariant-loop-block l =
    record {
      is_table : IsTable l.table;
      walk : Walk l.table l.block-iterator l.next;
      counted : l.count ≡ length (packets_below l.table l.next);
    }
