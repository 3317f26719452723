-- Table files: the entries that they spell, and what is wrong with any other bytes.
use Rattle.std.specs.Prelude.{◌≡◌, ◌≢◌, ℕ, ◌+◌, ◌^◌, ◌<◌, ◌≤◌, List, [], ◌∷◌, ◌++◌, length, Option}
use Rattle.std.specs.List.{flat_map}
use Rattle.std.specs.Io.KnownBytes.{Consumes}
use Rattle.udfs_lattice.specs.States.{State}
use Rattle.udfs_lattice.specs.Tables.{Table, IsTable, entries_of, one_entry, join_tables}
use Rattle.udfs_lattice.specs.Records.{IsEntry, RisesFrom, table_of_entries}
use Rattle.udfs_reading.specs.declared.error.ReadingFault.{ReadingFault}
use Rattle.udfs_reading.specs.declared.error.ReadingFault.TheVariants as fault
use Rattle.udfs_reading.specs.Format.{number, value_of, header, Format}
use Rattle.udfs_reading.specs.Kind.{Kind, kind}
use Rattle.udfs_reading.specs.TableFile.{table_magic, state_bytes, entry_bytes, table_bytes_v1}

-- the least number that may come after these
abbrev pub floor_after : ℕ → List (ℕ × State) → ℕ
floor_after low [] = low
floor_after low (e ∷ es) = floor_after (e.0 + 1) es

-- the header of a file of `count` entries, and the first entries
abbrev pub entries_front : ℕ → List (ℕ × State) → List ℕ
entries_front count es = header table_magic count ++ flat_map entry_bytes es

-- the bytes are the file of this table, and nothing else
pub record IsTableFile (bytes : List ℕ) (table : Table) : Type 0 where
  pub is_table : IsTable table
  pub spelled : bytes ≡ table_bytes_v1 table

-- ---- a file with a fault

-- where a field begins after the header of a table file of version 1, or its end is due
pub data TablePlace : Type 0 where
  -- the block number of the next of `count` entries, after these
  AtNumber : (count : ℕ) → (done : List (ℕ × State)) → TablePlace
  -- the state byte of that block
  AtState : (count : ℕ) → (done : List (ℕ × State)) → (block : ℕ) → TablePlace
  -- the bytes of that block, which is known
  AtContent : (count : ℕ) → (done : List (ℕ × State)) → (block : ℕ) → TablePlace
  AtTableEnd : (done : List (ℕ × State)) → TablePlace

-- entries are still to come, after these
pub record IsUnderEntries (count : ℕ) (done : List (ℕ × State)) : Type 0 where
  pub more : length done < count
  pub fits : count < 2 ^ 32
  pub each : RisesFrom 0 done

-- the place can occur: the bytes before it have no fault
abbrev pub IsTablePlace : TablePlace → Type 0
IsTablePlace (AtNumber count done) = IsUnderEntries count done
IsTablePlace (AtState count done block) = IsUnderEntries count done × (floor_after 0 done ≤ block) × (block ≤ 4194303)
IsTablePlace (AtContent count done block) = IsUnderEntries count done × (floor_after 0 done ≤ block) × (block ≤ 4194303)
IsTablePlace (AtTableEnd done) = (length done < 2 ^ 32) × RisesFrom 0 done

-- the bytes before a place
abbrev pub before_table_place : TablePlace → List ℕ
before_table_place (AtNumber count done) = entries_front count done
before_table_place (AtState count done block) = entries_front count done ++ number block
before_table_place (AtContent count done block) = entries_front count done ++ (number block ++ 1 ∷ [])
before_table_place (AtTableEnd done) = entries_front (length done) done

-- the record of a place: the next one, and at the end the last
abbrev pub record_of_table_place : TablePlace → ℕ
record_of_table_place (AtNumber count done) = length done + 1
record_of_table_place (AtState count done block) = length done + 1
record_of_table_place (AtContent count done block) = length done + 1
record_of_table_place (AtTableEnd done) = length done

-- how many bytes the field at a place has
abbrev pub size_of_table_place : TablePlace → ℕ
size_of_table_place (AtNumber count done) = 4
size_of_table_place (AtState count done block) = 1
size_of_table_place (AtContent count done block) = 2048
size_of_table_place (AtTableEnd done) = 0

-- the first byte is neither 1 nor 2
abbrev pub IsOtherState : List ℕ → Type 0
IsOtherState [] = ⊥
IsOtherState (b ∷ bytes) = (b ≢ 1) × (b ≢ 2)

-- the whole field at a place breaks its rule, which is this fault
abbrev pub BreaksTable : TablePlace → List ℕ → ReadingFault → Type 0
BreaksTable (AtNumber count done) rest fault.BlockNumber = 4194303 < value_of rest
BreaksTable (AtNumber count done) rest fault.Order = (value_of rest ≤ 4194303) × (value_of rest < floor_after 0 done)
BreaksTable (AtState count done block) rest fault.State = IsOtherState rest
BreaksTable (AtTableEnd done) rest fault.Trailing = 0 < length rest
BreaksTable place rest f = ⊥

-- table files of version 1, as a format
abbrev pub table_format : Format
table_format = record {
  magic = table_magic;
  Place = TablePlace;
  IsPlace = IsTablePlace;
  before = before_table_place;
  record_of = record_of_table_place;
  size_of = size_of_table_place;
  Breaks = BreaksTable;
  IsFile = λ bytes count table. IsTableFile bytes table × (count ≡ length (entries_of table));
}

-- table files of version 1
abbrev pub tables_v1 : Kind
tables_v1 = kind table_format

-- ---- what was read of it

-- a state was read, and joined to that of its block
pub record TakesState (old new : Option (List ℕ)) (block : ℕ) (before after : Table) : Type 0 where
  pub taken : State
  pub entry : IsEntry block taken
  pub given : Consumes old new (state_bytes taken)
  pub put : after ≡ join_tables before (one_entry block taken)

-- one entry was read, from `floor` on, and joined to the table
pub record TakesEntry (old new : Option (List ℕ)) (floor next : ℕ) (before after : Table) : Type 0 where
  pub taken : ℕ × State
  pub above : floor ≤ taken.0
  pub entry : IsEntry taken.0 taken.1
  pub given : Consumes old new (entry_bytes taken)
  pub next_is : next ≡ taken.0 + 1
  pub put : after ≡ join_tables before (one_entry taken.0 taken.1)

-- this many entries were read, and joined to the table
pub record TakesEntries (old new : Option (List ℕ)) (count floor : ℕ) (before after : Table) : Type 0 where
  pub taken : List (ℕ × State)
  pub many : length taken ≡ count
  pub rises : RisesFrom 0 taken
  pub floor_is : floor_after 0 taken ≡ floor
  pub given : Consumes old new (flat_map entry_bytes taken)
  pub put : after ≡ join_tables before (table_of_entries taken)
