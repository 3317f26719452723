-- What is known of an image whose blocks are read at positions.
use Rattle.std.specs.Prelude.{◌≡◌, ℕ, ◌+◌, ◌*◌, ◌≤◌, List, length, Option, None, Some, ⊤}
use Rattle.std.specs.Coded.{Unit-prop}
use Rattle.std.proofs.Math.Nat.{ℕ_set}
use Rattle.udfs_rescue.specs.declared.known.BlockRange.{BlockRange}
use Rattle.udfs_rescue.specs.Known.{InRanges}

-- the image has `size` bytes, where its bytes are known
abbrev pub HasSize : Option (List ℕ) → ℕ → Type 0
HasSize None size = ⊤
HasSize (Some all) size = size ≡ length all

-- any two proofs that an image has a size are equal
pub HasSize-prop : (image : Option (List ℕ)) (size : ℕ) → IsProp (HasSize image size)
HasSize-prop None size = Unit-prop
HasSize-prop (Some all) size = ℕ_set size (length all)

-- each block of the ranges ends within the first `size` bytes
abbrev pub AreInside : List BlockRange → ℕ → Type 0
AreInside ranges size = (n : ℕ) → InRanges ranges n → 2048 * (n + 1) ≤ size
