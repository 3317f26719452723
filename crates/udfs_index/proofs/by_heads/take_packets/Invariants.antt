-- The packets so far were taken.
use Rattle.std.proofs.Common.{◌≡◌, ◌≤◌}
use Rattle.udfs_reading.specs.Gains.{Gains}
use Rattle.udfs_reading.specs.PacketReading.{TakesPackets}
use Rattle.udfs_index.specs.Places.{behind}
use Rattle.udfs_index.proofs.by_heads.take_packets.Given as goal

abbrev pub invariant-loop-index : goal.invariant-loop-index
invariant-loop-index g l =
    let content = g.S.Stored.content l.fn.stored in
    record {
      taken : Gains (g.T.Taker.took l.initial.taker) (g.T.Taker.took l.taker) (TakesPackets (behind 16 content) (behind l.next.at content) l.index l.next.low);
      within : l.next.at ≤ l.fn.size;
      same : g.T.Taker.input l.taker ≡ g.T.Taker.input l.initial.taker;
    }
