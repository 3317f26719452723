-- The states of the blocks before `place` were read, and joined to the table.
use Rattle.std.proofs.Common.{◌≡◌, ◌*◌}
use Rattle.udfs_reading.specs.Device.{left}
use Rattle.udfs_reading.specs.Gains.{Gains}
use Rattle.udfs_reading.specs.Places.{StandsAt}
use Rattle.udfs_reading.proofs.PacketSteps.{BlocksSoFar}
use Rattle.udfs_reading.proofs.packet_file.read_blocks.Given as goal

abbrev pub invariant-loop-place : goal.invariant-loop-place
invariant-loop-place g l =
    let R = g.R.Source in
    record {
      blocks : Gains (g.T.Taker.took l.initial.taker) (g.T.Taker.took l.taker) (BlocksSoFar (left l.initial.window.bytes (R.remaining l.initial.source)) (left l.window.bytes (R.remaining l.source)) (32 * l.fn.packet) l.fn.masks.known l.fn.masks.conflict l.known l.conflict l.place);
      at : StandsAt (g.T.Taker.input l.taker) l.window.at (left l.window.bytes (R.remaining l.source));
      kept : R.faults l.source ≡ R.faults l.initial.source;
    }
