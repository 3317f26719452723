-- The join stays as it was.
use Rattle.std.proofs.Common.{◌≡◌}
use Rattle.udfs_tables.proofs.merge_tally.MergeTally.hear_all.Given as goal

abbrev pub invariant-loop-block : goal.invariant-loop-block
invariant-loop-block l = l.self ≡ l.fn.self
