use Rattle.std.proofs.Common.{drop}
use Rattle.udfs_walk.specs.BlockRuns.{blocks_of}
use Rattle.udfs_walk.proofs.BlockOrder.{IsJoining}
use Rattle.udfs_walk.proofs.block_runs.joined.Given as goal

abbrev pub invariant-loop-run : goal.invariant-loop-run
invariant-loop-run l = IsJoining l.runs (drop l.run-index l.rest) (blocks_of l.joined.items) l.tail
