-- An input: a reading or a table file of either version, recognized by its first eight bytes.
use Rattle.std.specs.Prelude.{◌≡◌, ℕ, ◌<◌, ◌≤◌, Bool, true, false, cond, List, length, take}
use Rattle.std.specs.Str.{bytes_eq}
use Rattle.udfs_reading.specs.declared.error.ReadingFault.{ReadingFault}
use Rattle.udfs_reading.specs.declared.error.ReadingFault.TheVariants.{Magic, Truncated}
use Rattle.udfs_reading.specs.declared.input.Accepted.{Accepted}
use Rattle.udfs_reading.specs.declared.input.Accepted.TheVariants as accepted
use Rattle.udfs_reading.specs.Kind.{Kind}
use Rattle.udfs_reading.specs.Reading.{magic, readings}
use Rattle.udfs_reading.specs.TableFile.{table_magic}
use Rattle.udfs_reading.specs.TableReading.{tables_v1}
use Rattle.udfs_reading.specs.PacketFile.{packet_magic}
use Rattle.udfs_reading.specs.PacketReading.{tables_v2}

-- what is wrong with bytes that name no format: there are not eight of them, or the first eight are others
abbrev pub IsUnnamed : List ℕ → ReadingFault → ℕ → Type 0
IsUnnamed bytes Truncated number = (length bytes < 8) × (number ≡ 0)
IsUnnamed bytes Magic number = (8 ≤ length bytes) × (number ≡ 0)
IsUnnamed bytes fault number = ⊥

-- bytes that name no format: none of them is a file
abbrev pub unnamed_kind : Kind
unnamed_kind = record { IsFile = λ bytes count table. ⊥; IsFaulty = IsUnnamed }

-- by whether the magic is a reading's, a table file's of version 1, and one's of version 2
abbrev pub named : Bool → Bool → Bool → Kind
named true v1 v2 = readings
named false true v2 = tables_v1
named false false true = tables_v2
named false false false = unnamed_kind

-- the kind of file that these eight bytes name; `too` says whether readings are accepted
abbrev pub kind_by : Bool → List ℕ → Kind
kind_by too name = named (cond too (bytes_eq name magic) false) (bytes_eq name table_magic) (bytes_eq name packet_magic)

-- the files whose kind the first eight bytes name
abbrev pub files : Bool → Kind
files too = record {
  IsFile = λ bytes count table. (kind_by too (take 8 bytes)).IsFile bytes count table;
  IsFaulty = λ bytes fault number. (kind_by too (take 8 bytes)).IsFaulty bytes fault number;
}

-- a table file of either version
abbrev pub tables : Kind
tables = files false

-- a reading, or a table file of either version
abbrev pub inputs : Kind
inputs = files true

-- the kind of file that a call accepts
abbrev pub kind_accepted : Accepted → Kind
kind_accepted accepted.Readings = readings
kind_accepted accepted.Tables = tables
kind_accepted accepted.All = inputs
