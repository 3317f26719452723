-- Blocks that are asked for, one listed block after the other.
--     IsNext asked next                   all of them are below this block, which follows on the last, or is 0 where there are none
--     Adds blocks last size block old next new later     with one listed block more these are asked for
use Rattle.std.specs.Prelude.{◌≡◌, ◌⊎◌, ℕ, ◌-◌, ◌<◌, List, [], ◌∷◌, ◌++◌, Contains}
use Rattle.udfs_lattice.specs.Volumes.{Blocks}
use Rattle.udfs_witnesses.specs.Groups.{AreGrouped}

-- the block after the greatest of these, or 0
abbrev pub IsNext : List ℕ → ℕ → Type 0
IsNext asked next = ((n : ℕ) → Contains asked n → n < next) × ((next ≡ 0) ⊎ Contains asked (next - 1))

-- where these were asked for of some listed blocks, all of them below this one, the new ones are asked for of them and this one
abbrev pub Adds : Blocks → ℕ → ℕ → ℕ → List ℕ → ℕ → List ℕ → ℕ → Type 0
Adds blocks last size block old next new later = (front : List ℕ) → ((n : ℕ) → Contains front n → n < block) → AreGrouped blocks last size front old → IsNext old next
    → AreGrouped blocks last size (front ++ block ∷ []) new × IsNext new later
