-- The blocks so far.
use Rattle.std.proofs.Common.{◌≡◌, ◌++◌, ◌+◌, ◌-◌}
use Rattle.std.specs.List.{range_with_len}
use Rattle.udfs_witnesses.proofs.grouping.push_blocks.Given as goal

abbrev pub invariant-loop-n : goal.invariant-loop-n
invariant-loop-n l = l.asked.items ++ range_with_len l.n (l.fn.to + 1 - l.n) ≡ l.fn.asked.items ++ range_with_len l.fn.from (l.fn.to + 1 - l.fn.from)
