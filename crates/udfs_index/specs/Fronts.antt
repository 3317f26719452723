-- What is given of the records of an image's blocks.
use Rattle.std.specs.Prelude.{◌≡◌, ℕ, ◌+◌, ◌*◌, ◌≤◌, List, ◌++◌, length, take, drop, Option, IfSome}
use Rattle.std.specs.List.{flat_map}
use Rattle.udfs_reading.specs.Reading.{record_bytes}
use Rattle.udfs_rescue.specs.Blocks.{records_from}

-- if the image has these blocks: the first n bytes are those after the first `skip` bytes of their records and what follows
abbrev pub IsFrontBehind : List ℕ → ℕ → ℕ → ℕ → ℕ → List ℕ → Type 0
IsFrontBehind all block left skip n bytes =
    2048 * (block + left) ≤ length all → (rest : List ℕ) → take n bytes ≡ take n (drop skip (flat_map record_bytes (records_from all block left) ++ rest))

-- a read may fail: one of the image may, or the bytes of the image are not known, or it ends before block `end`
abbrev pub MayFail : Option (List ℕ) → Type 0 → ℕ → Type 0
MayFail image fails end = IfSome image (λ all. 2048 * end ≤ length all → fails)
