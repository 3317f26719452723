-- The records of a reading, by their positions in it.
--     HasRecords all count                 the bytes are a reading of `count` records
--     IsRecordedAt all number block        the record of this number, from 0, is of this block
--     IsFrontOf content done count         the records of a reading of `count` records begin with these
--     TakesNext content number old new     the record of this number was taken after those before it
use Rattle.std.specs.Prelude.{◌≡◌, ℕ, ◌+◌, ◌*◌, ◌^◌, ◌<◌, ◌≤◌, List, [], ◌∷◌, ◌++◌, length, take, drop, Option, Some, IfSome}
use Rattle.udfs_lattice.specs.Records.{Record}
use Rattle.udfs_lattice.specs.Tables.{Table, join_tables, one_record}
use Rattle.udfs_reading.specs.Format.{number}
use Rattle.udfs_reading.specs.Reading.{AreRecords, IsReading, IsRecord}

-- the bytes are a reading of `count` records
pub record HasRecords (all : List ℕ) (count : ℕ) : Type 0 where
  pub records : List Record
  pub is : IsReading all records
  pub many : length records ≡ count

-- the record of this number, from 0, begins with the number of this block
pub record IsRecordedAt (all : List ℕ) (index block : ℕ) : Type 0 where
  pub spelled : take 4 (drop (16 + 2052 * index) all) ≡ number block

-- these are records, and where the bytes are known they are a reading of `count` records that begins with these
pub record IsFrontOf (content : Option (List ℕ)) (done : List Record) (count : ℕ) : Type 0 where
  pub few : count < 2 ^ 32
  pub each : AreRecords done
  pub within : length done ≤ count
  pub told : IfSome content (λ all. (rest : List Record) × IsReading all (done ++ rest) × (length (done ++ rest) ≡ count))

-- where the bytes of the input that is taken are known, this content is known too, and is the same
abbrev pub IsOf : Option (List ℕ) → Option (List ℕ) → Type 0
IsOf input content = IfSome input (λ whole. content ≡ Some whole)

-- one more record follows these, and its table was joined
pub record TakesOne (content : Option (List ℕ)) (done : List Record) (count : ℕ) (old new : Table → Type 0) : Type 0 where
  pub one : Record
  pub is : IsRecord one
  pub front : IsFrontOf content (done ++ one ∷ []) count
  pub took : (t : Table) → old t → new (join_tables t (one_record one.0 one.1))

-- the record of this number of any reading of more records
abbrev pub TakesNext : Option (List ℕ) → ℕ → (Table → Type 0) → (Table → Type 0) → Type 0
TakesNext content number old new = (done : List Record) (count : ℕ) → IsFrontOf content done count → length done ≡ number → number < count → TakesOne content done count old new
