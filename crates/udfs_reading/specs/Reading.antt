-- Reading files: the records that they spell, and what is wrong with any other bytes.
use Rattle.std.specs.Prelude.{◌≡◌, ℕ, ◌+◌, ◌^◌, ◌<◌, ◌≤◌, List, ◌++◌, length, codes, Option}
use Rattle.std.specs.List.{flat_map, AllByRecursion}
use Rattle.std.specs.Io.KnownBytes.{Consumes}
use Rattle.udfs_lattice.specs.States.{IsBlock}
use Rattle.udfs_lattice.specs.Tables.{Table, one_record, join_tables}
use Rattle.udfs_lattice.specs.Records.{Record, table_of}
use Rattle.udfs_reading.specs.declared.error.ReadingFault.{ReadingFault}
use Rattle.udfs_reading.specs.declared.error.ReadingFault.TheVariants.{BlockNumber, Trailing}
use Rattle.udfs_reading.specs.Format.{number, value_of, header, Format}
use Rattle.udfs_reading.specs.Kind.{Kind, kind}

-- the first eight bytes of a reading
unfoldable pub magic : List ℕ
magic = codes "UDFREAD1"

-- a block's number, and its bytes
abbrev pub record_bytes : Record → List ℕ
record_bytes r = number r.0 ++ r.1

-- the header of a file of `count` records, and the first records
abbrev pub front : ℕ → List Record → List ℕ
front count rs = header magic count ++ flat_map record_bytes rs

-- a block number that there is, and 2048 bytes
pub record IsRecord (r : Record) : Type 0 where
  pub number : r.0 ≤ 4194303
  pub block : IsBlock r.1

-- each of these is a record that there can be
abbrev pub AreRecords : List Record → Type 0
AreRecords rs = AllByRecursion IsRecord rs

-- ---- a file without a fault

-- the bytes are the reading of these records, and nothing else
pub record IsReading (bytes : List ℕ) (rs : List Record) : Type 0 where
  pub count : length rs < 2 ^ 32
  pub each : AreRecords rs
  pub spelled : bytes ≡ front (length rs) rs

-- ---- a file with a fault

-- Where a field begins after the header, or the end is due, after fields without a fault.
pub data Place : Type 0 where
  -- the block number of the next of `count` records, after these
  AtBlock : (count : ℕ) → (done : List Record) → Place
  -- the bytes of the next record, whose block is this
  AtBytes : (count : ℕ) → (done : List Record) → (block : ℕ) → Place
  AtEnd : (done : List Record) → Place

-- records are still to come
pub record IsUnder (count : ℕ) (done : List Record) : Type 0 where
  pub more : length done < count
  pub fits : count < 2 ^ 32
  pub each : AreRecords done

-- the place can occur: the bytes before it have no fault
abbrev pub IsReadingPlace : Place → Type 0
IsReadingPlace (AtBlock count done) = IsUnder count done
IsReadingPlace (AtBytes count done block) = IsUnder count done × (block ≤ 4194303)
IsReadingPlace (AtEnd done) = (length done < 2 ^ 32) × AreRecords done

-- the bytes before a place
abbrev pub before_place : Place → List ℕ
before_place (AtBlock count done) = front count done
before_place (AtBytes count done block) = front count done ++ number block
before_place (AtEnd done) = front (length done) done

-- at the end the last record
abbrev pub record_of_place : Place → ℕ
record_of_place (AtBlock count done) = length done + 1
record_of_place (AtBytes count done block) = length done + 1
record_of_place (AtEnd done) = length done

-- how many bytes the field at a place has
abbrev pub size_of_place : Place → ℕ
size_of_place (AtBlock count done) = 4
size_of_place (AtBytes count done block) = 2048
size_of_place (AtEnd done) = 0

-- at the end the rule is that no byte is left
abbrev pub BreaksAt : Place → List ℕ → ReadingFault → Type 0
BreaksAt (AtBlock count done) rest BlockNumber = 4194303 < value_of rest
BreaksAt (AtEnd done) rest Trailing = 0 < length rest
BreaksAt place rest fault = ⊥

-- readings, as a format
abbrev pub reading_format : Format
reading_format = record {
  magic = magic;
  Place = Place;
  IsPlace = IsReadingPlace;
  before = before_place;
  record_of = record_of_place;
  size_of = size_of_place;
  Breaks = BreaksAt;
  IsFile = λ bytes count table. (rs : List Record) × IsReading bytes rs × (count ≡ length rs) × (table ≡ table_of rs);
}

-- the table of a reading is that of its records
abbrev pub readings : Kind
readings = kind reading_format

-- ---- what was read of it

-- one record was read, and put into the table
pub record TakesRecord (old new : Option (List ℕ)) (before after : Table) : Type 0 where
  pub taken : Record
  pub is_record : IsRecord taken
  pub given : Consumes old new (record_bytes taken)
  pub put : after ≡ join_tables before (one_record taken.0 taken.1)

-- this many records were read, and put into the table
pub record TakesRecords (old new : Option (List ℕ)) (count : ℕ) (before after : Table) : Type 0 where
  pub taken : List Record
  pub many : length taken ≡ count
  pub are_records : AreRecords taken
  pub given : Consumes old new (flat_map record_bytes taken)
  pub put : after ≡ join_tables before (table_of taken)
