-- An image with its mapfile: its known blocks, or why it has no reading.
--     AreKnownOf map ranges       the blocks that a mapfile makes known
--     IsReadingOf image map left  the bytes of the reading of these blocks
--     IsTableOfPair image map left    the bytes are a reading without a fault, and what its table knows
--     PairFails image map fault   why an image with a mapfile has no reading
use Rattle.std.specs.Prelude.{◌≡◌, ◌↔◌, ℕ, ◌+◌, ◌*◌, ◌<◌, ◌≤◌, ◌⊎◌, List, All, length, Option, Some, Ok, Err, IfSome}
use Rattle.udfs_lattice.specs.declared.facts.Fact.TheVariants.{Unknown, Known}
use Rattle.udfs_lattice.specs.Tables.{state_of}
use Rattle.udfs_lattice.specs.Records.{Record, table_of}
use Rattle.udfs_reading.specs.Reading.{IsReading}
use Rattle.udfs_reading.specs.declared.error.ReadingFault.TheVariants.{Io}
use Rattle.udfs_rescue.specs.declared.known.BlockRange.{BlockRange}
use Rattle.udfs_rescue.specs.declared.opening.PairFault.{PairFault}
use Rattle.udfs_rescue.specs.declared.opening.PairFault.TheVariants as pair
use Rattle.udfs_rescue.specs.declared.run.Run.{Run}
use Rattle.udfs_rescue.specs.Blocks.{block_of, reading_of}
use Rattle.udfs_rescue.specs.Known.{AreBlocks, InRanges, IsKnown, IsFirstOutside, KnownFails}
use Rattle.udfs_rescue.specs.Lines.{outcome}

-- the blocks of these ranges are the ones that the mapfile makes known, none above 4,194,303
pub record AreKnownOf (map : Option (List ℕ)) (ranges : List BlockRange) : Type 0 where
  pub runs : List Run
  pub says : IfSome map (λ bytes. outcome bytes ≡ Ok runs)
  pub exactly : (n : ℕ) → InRanges ranges n ↔ IsKnown runs n
  pub blocks : AreBlocks ranges

-- each block that the mapfile makes known is wholly in the image, and these are the bytes of their reading
pub record IsReadingOf (image map left : Option (List ℕ)) : Type 0 where
  pub ranges : List BlockRange
  pub known : AreKnownOf map ranges
  pub inside : IfSome image (λ all. (n : ℕ) → InRanges ranges n → 2048 * (n + 1) ≤ length all)
  pub bytes : IfSome image (λ all. left ≡ Some (reading_of all ranges))

-- the bytes are a reading without a fault, whose table knows the blocks that the runs make known, with the image's bytes, and no others
pub record KnowsBlocks (all : List ℕ) (runs : List Run) (bytes : List ℕ) : Type 0 where
  pub records : List Record
  pub reading : IsReading bytes records
  pub known : (n : ℕ) → IsKnown runs n → state_of (table_of records) n ≡ Known (block_of all n)
  pub unknown : (n : ℕ) → ¬ IsKnown runs n → state_of (table_of records) n ≡ Unknown

-- the table of an image with its mapfile: it knows the blocks that the mapfile makes known, with the image's bytes, and no others
pub record IsTableOfPair (image map left : Option (List ℕ)) : Type 0 where
  pub runs : List Run
  pub says : IfSome map (λ bytes. outcome bytes ≡ Ok runs)
  pub knows : IfSome image (λ all. IfSome left (λ bytes. All (λ x. x < 256) all → KnowsBlocks all runs bytes))

-- the mapfile was read, and why its blocks have no reading
pub record KnownFailsOf (map : Option (List ℕ)) (fails : List Run → Type 0) : Type 0 where
  pub runs : List Run
  pub says : IfSome map (λ bytes. outcome bytes ≡ Ok runs)
  pub why : fails runs

-- the image ends before this block does, the least such of those that the mapfile makes known
pub record EndsInside (image map : Option (List ℕ)) (block : ℕ) : Type 0 where
  pub ranges : List BlockRange
  pub known : AreKnownOf map ranges
  pub outside : IfSome image (λ all. IsFirstOutside ranges (length all) block)

-- what each fault says of the image and its mapfile; running out of memory says nothing of them
abbrev pub PairFails : Option (List ℕ) → Option (List ℕ) → PairFault → Type 0
PairFails image map (pair.Line fault) = IfSome map (λ bytes. outcome bytes ≡ Err fault)
PairFails image map (pair.Reading e) = ((e.fault ≡ Io) × (e.number ≡ 0)) ⊎ KnownFailsOf map (λ runs. KnownFails runs e.fault e.number)
PairFails image map (pair.EndsBefore block) = EndsInside image map block
PairFails image map pair.OutOfMemory = Unit {0}
