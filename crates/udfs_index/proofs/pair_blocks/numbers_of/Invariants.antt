-- Each range so far has its number, and the next one is told.
use Rattle.std.proofs.Common.{◌≡◌, ◌<◌, ℕ, length, take, slice_index}
use Rattle.udfs_rescue.specs.Known.{block_count}
use Rattle.udfs_index.proofs.pair_blocks.numbers_of.Given as goal

abbrev pub invariant-loop-range : goal.invariant-loop-range
invariant-loop-range l =
    record {
      each : length l.before.items ≡ l.range-index;
      many : (i : ℕ) → i < l.range-index → slice_index l.before.items i ≡ block_count (take i l.ranges);
      next : l.count ≡ block_count (take l.range-index l.ranges);
    }
