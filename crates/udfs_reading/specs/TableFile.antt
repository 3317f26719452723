-- Table files: the one spelling of each table.
use Rattle.std.specs.Prelude.{ℕ, List, [], ◌∷◌, ◌++◌, length, codes}
use Rattle.std.specs.List.{flat_map}
use Rattle.udfs_lattice.specs.declared.facts.Fact.TheVariants.{Unknown, Known, Conflict}
use Rattle.udfs_lattice.specs.States.{State}
use Rattle.udfs_lattice.specs.Tables.{Table, entries_of}
use Rattle.udfs_reading.specs.Format.{number, header}

-- the first eight bytes of a table file of version 1
unfoldable pub table_magic : List ℕ
table_magic = codes "UDFTABL1"

-- a byte 1 and the block's bytes, or a byte 2 alone
abbrev pub state_bytes : State → List ℕ
state_bytes Unknown = []
state_bytes (Known bytes) = 1 ∷ bytes
state_bytes Conflict = 2 ∷ []

-- an entry: the block's number, its state, and the bytes of a known block
abbrev pub entry_bytes : ℕ × State → List ℕ
entry_bytes e = number e.0 ++ state_bytes e.1

-- the header of a table file of version 1 of `count` entries
abbrev pub table_header : ℕ → List ℕ
table_header count = header table_magic count

-- the file of these entries
unfoldable pub file_of : List (ℕ × State) → List ℕ
file_of es = table_header (length es) ++ flat_map entry_bytes es

-- the one spelling of a table
abbrev pub table_bytes_v1 : Table → List ℕ
table_bytes_v1 t = file_of (entries_of t)
