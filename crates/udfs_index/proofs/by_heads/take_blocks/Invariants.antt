-- The states of the blocks before `place` were taken.
use Rattle.std.proofs.Common.{◌≡◌, ◌+◌, ◌*◌, ◌≤◌}
use Rattle.udfs_reading.specs.Gains.{Gains}
use Rattle.udfs_reading.specs.PacketReading.{size_of_blocks}
use Rattle.udfs_reading.proofs.PacketSteps.{BlocksSoFar}
use Rattle.udfs_index.specs.Places.{behind}
use Rattle.udfs_index.proofs.by_heads.take_blocks.Given as goal

abbrev pub invariant-loop-place : goal.invariant-loop-place
invariant-loop-place g l =
    let content = g.S.Stored.content l.fn.stored in
    record {
      blocks : Gains (g.T.Taker.took l.initial.taker) (g.T.Taker.took l.taker) (BlocksSoFar (behind l.fn.at content) (behind l.next content) (32 * l.fn.head.packet) l.fn.head.known l.fn.head.conflict l.known l.conflict l.place);
      within : l.next + size_of_blocks l.known ≤ l.fn.size;
      same : g.T.Taker.input l.taker ≡ g.T.Taker.input l.initial.taker;
    }
