use Rattle.std.proofs.Common.{◌≡◌, ◌-◌, ◌++◌}
use Rattle.std.specs.List.{range_with_len}
use Rattle.udfs_lawfulness.proofs.tables.push_row.Given as goal

-- the numbers so far with those that are left are all
abbrev pub invariant-loop-n : goal.invariant-loop-n
invariant-loop-n l = l.numbers.items ++ range_with_len l.n (l.end - l.n) ≡ l.fn.numbers.items ++ range_with_len l.first (l.end - l.first)
