-- The inputs so far were read, their tables are joined to that of the taker, and nothing was read ahead.
use Rattle.std.proofs.Common.{◌≡◌, []}
use Rattle.udfs_reading.specs.Gains.{Gains}
use Rattle.udfs_reading.proofs.SoFar.{SoFar}
use Rattle.udfs_reading.proofs.inputs.take_each.Given as goal

abbrev pub invariant-loop-index : goal.invariant-loop-index
invariant-loop-index g l =
    record {
      so_far : Gains (g.T.Taker.took l.initial.taker) (g.T.Taker.took l.taker) (SoFar g.R.Source.remaining g.R.Source.faults l.fn.inputs l.inputs l.index);
      empty : l.window.bytes ≡ [];
    }
