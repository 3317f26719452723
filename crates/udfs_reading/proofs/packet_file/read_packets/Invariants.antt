-- The packets so far were read, and joined to the table.
use Rattle.std.proofs.Common.{◌≡◌}
use Rattle.udfs_reading.specs.Device.{left}
use Rattle.udfs_reading.specs.Gains.{Gains}
use Rattle.udfs_reading.specs.Places.{StandsAt}
use Rattle.udfs_reading.specs.PacketReading.{TakesPackets}
use Rattle.udfs_reading.proofs.packet_file.read_packets.Given as goal

abbrev pub invariant-loop-index : goal.invariant-loop-index
invariant-loop-index g l =
    let R = g.R.Source in
    record {
      taken : Gains (g.T.Taker.took l.initial.taker) (g.T.Taker.took l.taker) (TakesPackets (left l.initial.window.bytes (R.remaining l.initial.source)) (left l.window.bytes (R.remaining l.source)) l.index l.low);
      at : StandsAt (g.T.Taker.input l.taker) l.window.at (left l.window.bytes (R.remaining l.source));
      kept : R.faults l.source ≡ R.faults l.initial.source;
    }
