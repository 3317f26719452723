use Rattle.std.proofs.Common.{◌≡◌, ◌++◌, drop}
use Rattle.udfs_walk.specs.BlockRuns.{blocks_of}
use Rattle.udfs_walk.proofs.block_runs.spelled.Given as goal

abbrev pub invariant-loop-run : goal.invariant-loop-run
invariant-loop-run l = l.numbers.items ++ blocks_of (drop l.run-index l.runs) ≡ blocks_of l.runs
