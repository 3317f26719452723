-- The image of a disc, by what a table says of its blocks.
use Rattle.std.specs.Prelude.{ℕ, ◌+◌, List, replicate}
use Rattle.std.specs.List.{flat_map}
use Rattle.udfs_lattice.specs.declared.facts.Fact.TheVariants.{Unknown, Known, Conflict}
use Rattle.udfs_lattice.specs.States.{State}
use Rattle.udfs_lattice.specs.Tables.{Table}
use Rattle.udfs_reading.specs.PacketFile.{states_from}

-- the 2048 bytes of a block: zeros where it is not known
abbrev pub filled : State → List ℕ
filled Unknown = replicate 2048 0
filled (Known bytes) = bytes
filled Conflict = replicate 2048 0

-- those of the blocks from 0 to the last one
abbrev pub filled_to : Table → ℕ → List ℕ
filled_to t last = flat_map filled (states_from t 0 (last + 1))
