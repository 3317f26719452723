use Rattle.std.proofs.Common.{◌≡◌, ◌++◌, ◌+◌, ◌-◌}
use Rattle.std.specs.List.{range_with_len}
use Rattle.udfs_walk.specs.BlockRuns.{run_blocks}
use Rattle.udfs_walk.proofs.block_runs.push_blocks.Given as goal

abbrev pub invariant-loop-n : goal.invariant-loop-n
invariant-loop-n l = l.numbers.items ++ range_with_len l.n (l.fn.run.last + 1 - l.n) ≡ l.fn.numbers.items ++ run_blocks l.fn.run
