use Rattle.std.proofs.Common.{◌≡◌, ◌-◌, drop}
use Rattle.udfs_space.specs.Sparing.{is_out_of_order}
use Rattle.udfs_space.proofs.entries.is_out_of_order.Given as goal

abbrev pub invariant-loop-i : goal.invariant-loop-i
invariant-loop-i l = is_out_of_order (drop (l.i - 1) l.entries) ≡ is_out_of_order l.entries
