-- What a hasher has been given.
--     HasTaken told hash      the bytes of an output are known, and the hasher was given them
use Rattle.std.specs.Prelude.{◌≡◌, List, ℕ, Option, Some}
use Rattle.sha2.specs.Hashers.{Holds256}
use Rattle.sha2.specs.declared.Sha256.{Sha256}

-- the bytes of an output are known, and they are those that the hasher was given
abbrev pub HasTaken : Option (List ℕ) → Sha256 → Type 0
HasTaken told hash = (bytes : List ℕ) × (told ≡ Some bytes) × Holds256 hash bytes
