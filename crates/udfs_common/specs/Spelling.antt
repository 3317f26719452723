-- The table file that is written.
use Rattle.std.specs.Prelude.{ℕ, List}
use Rattle.udfs_lattice.specs.Tables.{Table}
use Rattle.udfs_reading.specs.PacketFile.{table_bytes}
use Rattle.udfs_reading.specs.TableFile.{table_bytes_v1}
use Rattle.udfs_words.specs.declared.forms.Version.{Version}
use Rattle.udfs_words.specs.declared.forms.Version.TheVariants.{One, Two}

-- the spelling of a table in this version
abbrev pub table_file : Version → Table → List ℕ
table_file One t = table_bytes_v1 t
table_file Two t = table_bytes t
