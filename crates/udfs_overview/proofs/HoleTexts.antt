-- What is said of several blocks that a volume needs.
use Rattle.std.proofs.Common.{◌≡◌, ◌≤◌, arith, length, refl, ℕ, List, [], ◌∷◌, ◌++◌}
use Rattle.std.specs.Prelude.{codes}
use Rattle.udfs_overview.specs.VolumeLines.{holes_text, numbers_text}

pub several : (ns : List ℕ) → 2 ≤ length ns → codes "at least one of the blocks " ++ (numbers_text ns ++ codes " is needed") ≡ holes_text ns
several [] most = absurd (omega (arith, most))
several (n ∷ []) most = absurd (omega (arith, most))
several (n ∷ m ∷ ms) most = refl
