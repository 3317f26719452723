-- The descriptor that prevails, one descriptor after the other. No public contract cites these definitions.
use Rattle.std.specs.Prelude.{List, [], ◌∷◌, cond, nat_lt, Option, Some, None}
use Rattle.udfs_volume.specs.Sequence.{Descriptor}
use Rattle.udfs_volume.specs.Layout.{sequence_number}

-- what prevails so far and the next one: on a tie the first
abbrev pub later_of : Option Descriptor → Descriptor → Descriptor
later_of None next = next
later_of (Some first) next = cond (nat_lt (sequence_number first) (sequence_number next)) next first

-- the prevailing one of some descriptors and one that was best before
abbrev pub best_of : Option Descriptor → List Descriptor → Option Descriptor
best_of best [] = best
best_of best (d ∷ ds) = best_of (Some (later_of best d)) ds
