-- What a taker has taken since.
--     Gains                what a taker took by reading
--     TakesReading         a whole reading was taken whose records are known without reading
--     LeavesReading        of such a reading not all was taken
use Rattle.std.specs.Prelude.{ℕ, ◌^◌, ◌<◌, List, length, Option}
use Rattle.std.specs.Io.KnownBytes.{Consumes, IsAtEnd}
use Rattle.udfs_lattice.specs.Records.{Record, table_of}
use Rattle.udfs_lattice.specs.Tables.{Table, join_tables}
use Rattle.udfs_reading.specs.Device.{left}
use Rattle.udfs_reading.specs.Format.{header}
use Rattle.udfs_reading.specs.Reading.{magic, front, AreRecords}

-- Of a taker that had taken one of the tables `old`, and has taken one of the tables `new` now: the table that was read since
-- is joined to each. P says how the table before and the one after are related by what was read.
pub record Gains (old new : Table → Type 0) (P : Table → Table → Type 0) : Type 0 where
  pub read : Table
  pub each : (t : Table) → P t (join_tables t read)
  pub took : (t : Table) → old t → new (join_tables t read)

-- a reading of these records was consumed to the end of the source, and their table is joined to each that was taken before
pub record TakesReading (old new : Table → Type 0) (before after : Option (List ℕ)) : Type 0 where
  pub records : List Record
  pub few : length records < 2 ^ 32
  pub each : AreRecords records
  pub given : Consumes before after (front (length records) records)
  pub end : IsAtEnd after
  pub took : (t : Table) → old t → new (join_tables t (table_of records))

-- the source begins with the header of a reading, which has some records, and one of these was not taken
pub record LeavesReading (before after : Option (List ℕ)) (number : ℕ) : Type 0 where
  pub count : ℕ
  pub few : count < 2 ^ 32
  pub some : 0 < count
  pub first : 0 < number
  pub ahead : List ℕ
  pub given : Consumes before (left ahead after) (header magic count)
