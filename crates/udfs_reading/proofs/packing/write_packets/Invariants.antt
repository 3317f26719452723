-- The packets below `next` were taken.
use Rattle.std.specs.List.{flat_map}
use Rattle.udfs_reading.specs.PacketFile.{packet_bytes, packets_below}
use Rattle.udfs_reading.specs.Writing.{Passed}
use Rattle.udfs_reading.proofs.PacketWalk.{Walk}
use Rattle.udfs_reading.proofs.packing.write_packets.Given as goal

abbrev pub invariant-loop-block : goal.invariant-loop-block
invariant-loop-block g l =
    let W = g.W.Sink in
    record {
      walk : Walk l.table l.block-iterator l.next;
      passed : Passed (W.stream l.initial.sink) (W.stream l.sink) l.initial.out l.out (flat_map packet_bytes (packets_below l.table l.next));
    }
