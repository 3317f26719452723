-- The blocks so far and those of the ranges that are left are all.
use Rattle.std.proofs.Common.{◌≡◌, ◌≤◌, ℕ, drop}
use Rattle.udfs_rescue.specs.Known.{RiseFrom, judged, added}
use Rattle.udfs_rescue.proofs.known.count_blocks.Given as goal

abbrev pub invariant-loop-range : goal.invariant-loop-range
invariant-loop-range l =
    (added l.count (judged (drop l.range-index l.ranges)) ≡ judged l.ranges) × ((last : ℕ) × RiseFrom last (drop l.range-index l.ranges) × (l.count ≤ last) × (last ≤ 4194304))
