-- The blocks whose bytes all lie in runs of status +.
use Rattle.std.specs.Prelude.{◌≡◌, ◌↔◌, ℕ, ◌+◌, ◌-◌, ◌*◌, ◌<◌, ◌≤◌, nat_le, nat_lt, max, Option, Some, None, if◌then◌else◌, List, [], ◌∷◌, ◌⊎◌, Result, Ok, Err}
use Rattle.udfs_reading.specs.declared.error.ReadingFault.{ReadingFault}
use Rattle.udfs_reading.specs.declared.error.ReadingFault.TheVariants.{BlockNumber, OutOfMemory}
use Rattle.udfs_rescue.specs.declared.run.Run.{Run}
use Rattle.udfs_rescue.specs.declared.run.RunStatus.TheVariants.{Finished}
use Rattle.udfs_rescue.specs.declared.known.BlockRange.{BlockRange}

-- the byte at this position lies in a run of status +
abbrev pub IsRescued : List Run → ℕ → Type 0
IsRescued [] i = ⊥
IsRescued (r ∷ rs) i = ((r.status ≡ Finished) × (r.at ≤ i) × (i < r.at + r.size)) ⊎ IsRescued rs i

-- all 2048 bytes of the block lie in runs of status +
abbrev pub IsKnown : List Run → ℕ → Type 0
IsKnown runs n = (i : ℕ) → i < 2048 → IsRescued runs (2048 * n + i)

-- the block is in one of the ranges
abbrev pub InRanges : List BlockRange → ℕ → Type 0
InRanges [] n = ⊥
InRanges (r ∷ rs) n = ((r.start ≤ n) × (n < r.end)) ⊎ InRanges rs n

-- the ranges rise, from this block on, and none is empty
abbrev pub RiseFrom : ℕ → List BlockRange → Type 0
RiseFrom low [] = Unit {0}
RiseFrom low (r ∷ rs) = (low ≤ r.start) × (r.start < r.end) × RiseFrom r.end rs

-- all blocks of the ranges are at most 4,194,303
abbrev pub EndWithin : List BlockRange → Type 0
EndWithin [] = Unit {0}
EndWithin (r ∷ rs) = (r.end ≤ 4194304) × EndWithin rs

-- how many blocks the ranges have
abbrev pub block_count : List BlockRange → ℕ
block_count [] = 0
block_count (r ∷ rs) = (r.end - r.start) + block_count rs

-- blocks of a volume: ranges that rise, up to block 4,194,303 at most
pub record AreBlocks (ranges : List BlockRange) : Type 0 where
  pub rise : RiseFrom 0 ranges
  pub within : EndWithin ranges

-- a known block is above 4,194,303; the first such is the record of this number, counted from 1 over all known blocks
pub record IsTooHigh (runs : List Run) (number : ℕ) : Type 0 where
  pub block : ℕ
  pub above : 4194303 < block
  pub known : IsKnown runs block
  pub before : List BlockRange
  pub rise : RiseFrom 0 before
  pub exactly : (n : ℕ) → InRanges before n ↔ (IsKnown runs n × (n ≤ 4194303))
  pub which : number ≡ block_count before + 1

-- why there are no known blocks of a volume
abbrev pub KnownFails : List Run → ReadingFault → ℕ → Type 0
KnownFails runs OutOfMemory number = number ≡ 0
KnownFails runs BlockNumber number = IsTooHigh runs number
KnownFails runs fault number = ⊥

-- the block is the least of the ranges that is not wholly in an image of this many bytes
pub record IsFirstOutside (ranges : List BlockRange) (size block : ℕ) : Type 0 where
  pub among : InRanges ranges block
  pub outside : size < 2048 * (block + 1)
  pub least : (n : ℕ) → InRanges ranges n → n < block → 2048 * (n + 1) ≤ size

-- ---- as it is computed (internal)

-- the first block from this one on
abbrev pub first_from : List BlockRange → ℕ → Option ℕ
first_from [] w = None
first_from (r ∷ rs) w = if nat_lt w r.end then Some (max r.start w) else first_from rs w

-- a count, or the number of a fault, increased by k
abbrev pub added : ℕ → Result ℕ ℕ → Result ℕ ℕ
added k (Ok n) = Ok (k + n)
added k (Err n) = Err (k + n)

-- how many blocks there are, or how many up to block 4,194,303 where one is above
abbrev pub judged : List BlockRange → Result ℕ ℕ
judged [] = Ok 0
judged (r ∷ rs) = if nat_le r.end 4194304 then added (r.end - r.start) (judged rs) else Err (4194304 - r.start)
