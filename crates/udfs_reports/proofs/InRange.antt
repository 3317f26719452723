-- The last block of a disc that has no room for a volume cannot be that of one.
use Rattle.std.proofs.Common.{◌≡◌, ℕ, Bool, true, false, cond, arith, inl, inr, refl}
use Rattle.std.specs.Prelude.{nat_le}
use Rattle.udfs_overview.specs.Disagreements.{has_room}
use Rattle.udfs_salvage.specs.Reports.{IsOutOfRange}

by_tests : (last : ℕ) (from to : Bool) → nat_le 513 last ≡ from → nat_le last 4194303 ≡ to → cond from to false ≡ false → IsOutOfRange last
by_tests last true true first second none = absurd (let no : ⊥ = cc in no)
by_tests last true false first second none = inr (grind (arith, second))
by_tests last false to first second none = inl (grind (arith, first))

pub out_of_range : (last : ℕ) → has_room last ≡ false → IsOutOfRange last
out_of_range last none = by_tests last _ _ refl refl none
