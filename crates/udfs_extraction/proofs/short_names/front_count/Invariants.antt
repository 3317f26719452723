-- The units that were taken, and those that are taken of the rest, are those of all; and the rest grows shorter.
use Rattle.std.proofs.Common.{◌≡◌, ◌+◌, length}
use Rattle.udfs_extraction.specs.ShortNames.{front_count}
use Rattle.udfs_extraction.proofs.short_names.front_count.Given as goal

abbrev pub invariant-loop-rest : goal.invariant-loop-rest
invariant-loop-rest l = (l.count + front_count l.left l.rest ≡ front_count l.room l.units) × (l.count + length l.rest ≡ length l.units)

abbrev pub decreases-loop-rest : goal.decreases-loop-rest
decreases-loop-rest l = length l.rest
