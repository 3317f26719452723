-- What the list lacks is 0 before and after; and it grows up to the length that is asked for.
use Rattle.std.proofs.Common.{◌≡◌, ◌-◌, ◌+◌, ℕ, length, slice_get}
use Rattle.std.specs.Prelude.{unwrap_or}
use Rattle.udfs_extraction.proofs.places.lengthen.Given as goal

abbrev pub invariant-loop-way : goal.invariant-loop-way
invariant-loop-way l = (d : ℕ) → unwrap_or (slice_get l.way.items d) 0 ≡ unwrap_or (slice_get l.initial.way.items d) 0

abbrev pub decreases-loop-way : goal.decreases-loop-way
decreases-loop-way l = l.depth + 1 - length l.way.items
