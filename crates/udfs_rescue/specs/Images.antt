-- The image of a table.
use Rattle.std.specs.Prelude.{ℕ, zero, suc, ◌+◌, List, [], ◌++◌, replicate}
use Rattle.udfs_lattice.specs.declared.facts.Fact.TheVariants.{Unknown, Known, Conflict}
use Rattle.udfs_lattice.specs.States.{State}
use Rattle.udfs_lattice.specs.Tables.{Table, state_of}

-- the 2048 bytes of a block: zeros where it is not known
abbrev pub bytes_of_state : State → List ℕ
bytes_of_state Unknown = replicate 2048 0
bytes_of_state (Known bytes) = bytes
bytes_of_state Conflict = replicate 2048 0

-- the bytes of this many blocks from block n on
abbrev pub blocks_from : Table → ℕ → ℕ → List ℕ
blocks_from t n zero = []
blocks_from t n (suc k) = bytes_of_state (state_of t n) ++ blocks_from t (n + 1) k

-- the image of the blocks from 0 to the last one
abbrev pub image_bytes : Table → ℕ → List ℕ
image_bytes t last = blocks_from t 0 (last + 1)
