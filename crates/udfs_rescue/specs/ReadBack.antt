-- What was written is read back: a mapfile, and the image of a table with its mapfile.
--     MapReadsBack      a mapfile makes known exactly the blocks of status +
--     DomainIsRefused   the map of wanted blocks is rejected, as it is not that of a pass
--     DomainReadsBack   but for the line that says so, it makes known exactly these blocks
--     ImageReadsBack    an image with its mapfile has the table that they were written of, without its conflicts
--     ImageIsPair       and opening them fails only if a device fails or memory runs out
use Rattle.std.specs.Prelude.{◌≡◌, ◌↔◌, ◌<◌, ◌≤◌, ◌⊎◌, ℕ, Contains, List, ◌++◌, Option, Some, Ok, Err}
use Rattle.udfs_lattice.specs.declared.facts.Fact.TheVariants.{Unknown, Known}
use Rattle.udfs_lattice.specs.Records.{Record, table_of}
use Rattle.udfs_lattice.specs.Tables.{Table, IsTable, state_of, without_conflict}
use Rattle.udfs_reading.specs.declared.error.ReadingFault.TheVariants.{Io, OutOfMemory}
use Rattle.udfs_reading.specs.Reading.{IsReading}
use Rattle.udfs_rescue.specs.declared.fault.MapFault.TheVariants.{NotPass}
use Rattle.udfs_rescue.specs.declared.opening.PairFault.{PairFault}
use Rattle.udfs_rescue.specs.declared.opening.PairFault.TheVariants as pair
use Rattle.udfs_rescue.specs.declared.run.Run.{Run}
use Rattle.udfs_rescue.specs.declared.run.RunStatus.{RunStatus}
use Rattle.udfs_rescue.specs.declared.run.RunStatus.TheVariants.{Finished}
use Rattle.udfs_rescue.specs.Images.{image_bytes}
use Rattle.udfs_rescue.specs.Known.{IsKnown}
use Rattle.udfs_rescue.specs.Lines.{outcome}
use Rattle.udfs_rescue.specs.Opening.{IsReadingOf, PairFails}
use Rattle.udfs_rescue.specs.Writing.{map_text, domain_text, mark_line, table_status}

-- the bytes are a mapfile that makes exactly these blocks known
pub record MakesKnown (bytes : List ℕ) (IsOne : ℕ → Type 0) : Type 0 where
  pub runs : List Run
  pub says : outcome bytes ≡ Ok runs
  pub exactly : (n : ℕ) → IsKnown runs n ↔ IsOne n

-- a mapfile that was written makes exactly the blocks of status + known, up to the last one
abbrev pub MapReadsBack : Type 0
MapReadsBack = (status : ℕ → RunStatus) (last : ℕ) → last ≤ 4194303 → MakesKnown (map_text status last) (λ n. (n ≤ last) × (status n ≡ Finished))

-- the map of wanted blocks is rejected at its second line, as blocks to read again
abbrev pub DomainIsRefused : Type 0
DomainIsRefused = (wanted : List ℕ) (last : ℕ) → outcome (domain_text wanted last) ≡ Err (record { line = 2; fault = NotPass })

-- without one line, which is the mark, the bytes are a mapfile that makes exactly these blocks known
pub record MarksBlocks (bytes : List ℕ) (IsOne : ℕ → Type 0) : Type 0 where
  pub before : List ℕ
  pub behind : List ℕ
  pub whole : bytes ≡ before ++ (mark_line ++ behind)
  pub without : MakesKnown (before ++ behind) IsOne

-- without its mark, the map of wanted blocks makes exactly these known
abbrev pub DomainReadsBack : Type 0
DomainReadsBack = (wanted : List ℕ) (last : ℕ) → last ≤ 4194303 → MarksBlocks (domain_text wanted last) (λ n. (n ≤ last) × Contains wanted n)

-- and that of a table those that the table knows
abbrev pub ImageMapReadsBack : Type 0
ImageMapReadsBack = (t : Table) (last : ℕ) → last ≤ 4194303 → MakesKnown (map_text (table_status t) last) (λ n. (n ≤ last) × ((bytes : List ℕ) × (state_of t n ≡ Known bytes)))

-- the bytes are a reading, whose table has what this table has up to a last block, without its conflicts, and nothing beyond
pub record HasTable (t : Table) (last : ℕ) (bytes : List ℕ) : Type 0 where
  pub records : List Record
  pub reading : IsReading bytes records
  pub inside : (n : ℕ) → n ≤ last → state_of (table_of records) n ≡ without_conflict (state_of t n)
  pub beyond : (n : ℕ) → last < n → state_of (table_of records) n ≡ Unknown

-- the image of a table with its mapfile, where they are read as a pair, has the table
abbrev pub ImageReadsBack : Type 0
ImageReadsBack = (t : Table) (last : ℕ) (left : Option (List ℕ)) → last ≤ 4194303 → IsTable t → IsReadingOf (Some (image_bytes t last)) (Some (map_text (table_status t) last)) left
    → (bytes : List ℕ) × (left ≡ Some bytes) × HasTable t last bytes

-- the device failed, or memory ran out
abbrev pub IsOutside : PairFault → Type 0
IsOutside (pair.Line fault) = ⊥
IsOutside (pair.Reading e) = ((e.fault ≡ Io) ⊎ (e.fault ≡ OutOfMemory)) × (e.number ≡ 0)
IsOutside (pair.EndsBefore block) = ⊥
IsOutside pair.OutOfMemory = Unit {0}

-- opening the image of a table with its mapfile fails only if a device fails or memory runs out
abbrev pub ImageIsPair : Type 0
ImageIsPair = (t : Table) (last : ℕ) (fault : PairFault) → last ≤ 4194303 → IsTable t → PairFails (Some (image_bytes t last)) (Some (map_text (table_status t) last)) fault → IsOutside fault
