use Rattle.std.proofs.Common.{◌≤◌, ◌-◌}
use Rattle.udfs_remarks.proofs.structures.greatest_between.Given as goal

abbrev pub invariant-loop-to : goal.invariant-loop-to
invariant-loop-to g l = l.from ≤ l.to

abbrev pub decreases-loop-to : goal.decreases-loop-to
decreases-loop-to g l = l.to - l.from
