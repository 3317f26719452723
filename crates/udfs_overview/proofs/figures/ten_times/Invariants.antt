use Rattle.std.proofs.Common.{◌≡◌, ◌+◌, ◌*◌, ◌-◌, ◌<◌, ◌≤◌}
use Rattle.udfs_overview.proofs.figures.ten_times.Given as goal

abbrev pub invariant-loop-count : goal.invariant-loop-count
invariant-loop-count l = record {
  count : l.count ≤ 10;
  digit : l.digit ≤ l.count;
  left : l.left < l.whole;
  value : l.count * l.part ≡ l.digit * l.whole + l.left;
}

abbrev pub decreases-loop-count : goal.decreases-loop-count
decreases-loop-count l = 10 - l.count
