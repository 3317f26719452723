-- What an output has taken, by the file that it is written to.
--     contents_of state size              all that it has taken: the file's bytes, with the zeros that were left out at their end
--     IsOutput state size has_hole        the file is at its end, which zeros that were left out may put further on
use Rattle.std.proofs.Common.{refl, ap, arith}
use Rattle.std.specs.Coded.{×_prop, →_prop, Unit-prop, le_prop}
use Rattle.std.specs.Prelude.{◌≡◌, ℕ, ◌≤◌, List, Bool, false, drop, length, Option, Some, None}
use Rattle.udfs_calls.specs.Files.{Descriptor, bytes_of, padded, rest_of}

-- all that an output of this size has taken, where its file's bytes are known
abbrev pub contents_of : Option Descriptor → ℕ → Option (List ℕ)
contents_of None size = None
contents_of (Some d) size = Some (padded size d.bytes)

-- The file of an output of this size is at its end; without a hole there, all bytes are in it.
abbrev pub IsOutput : Option Descriptor → ℕ → Bool → Type 0
IsOutput None size has_hole = Unit {0}
IsOutput (Some d) size has_hole = (length d.bytes ≤ size) × ((d.at ≤ size) × ((size ≤ d.at) × (has_hole ≡ false → size ≤ length d.bytes)))

-- an output's file is at its end in one way
pub IsOutput-prop : (state : Option Descriptor) (size : ℕ) (has_hole : Bool) → IsProp (IsOutput state size has_hole)
IsOutput-prop None size has_hole = Unit-prop
IsOutput-prop (Some d) size has_hole = ×_prop le_prop (×_prop le_prop (×_prop le_prop (→_prop le_prop)))

-- an opened file is at its front, where its position is known
abbrev pub AtFront : Option Descriptor → Type 0
AtFront None = Unit {0}
AtFront (Some d) = d.at ≤ 0

-- it is so in one way
pub AtFront-prop : (state : Option Descriptor) → IsProp (AtFront state)
AtFront-prop None = Unit-prop
AtFront-prop (Some d) = le_prop

-- what is at most 0 is 0
nothing : (n : ℕ) → n ≤ 0 → n ≡ 0
nothing n le = omega (arith, le)

-- at its front an opened file has all its bytes before it
pub all_before : (state : Option Descriptor) → AtFront state → rest_of state ≡ bytes_of state
all_before None front = refl
all_before (Some d) front = ap (λ at. Some (drop at d.bytes)) (nothing d.at front)

-- the bytes of a file are known where its descriptor is
pub told_bytes : (state : Option Descriptor) → (d : Descriptor) × (state ≡ Some d) → (bytes : List ℕ) × (bytes_of state ≡ Some bytes)
told_bytes state known = (known.0.bytes, ap bytes_of known.1)

-- what an output has taken is known where its descriptor is
pub told_contents : (state : Option Descriptor) (size : ℕ) → (d : Descriptor) × (state ≡ Some d) → (bytes : List ℕ) × (contents_of state size ≡ Some bytes)
told_contents state size known = (padded size known.0.bytes, ap (λ s. contents_of s size) known.1)

-- what an output has taken is not known where its descriptor is not
pub untold_contents : (state : Option Descriptor) (size : ℕ) → state ≡ None → contents_of state size ≡ None
untold_contents state size none = ap (λ s. contents_of s size) none
