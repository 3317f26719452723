-- The place is from low on, and below high.
use Rattle.std.proofs.Common.{◌<◌, ◌≤◌, ◌-◌, length, slice_index}
use Rattle.udfs_index.proofs.pair_blocks.last_at_most.Given as goal

abbrev pub invariant-loop-high : goal.invariant-loop-high
invariant-loop-high l =
    record {
      some : l.low < l.high;
      within : l.high ≤ length l.before;
      most : slice_index l.before l.low ≤ l.number;
      last : l.high < length l.before → l.number < slice_index l.before l.high;
    }

abbrev pub decreases-loop-high : goal.decreases-loop-high
decreases-loop-high l = l.high - l.low
