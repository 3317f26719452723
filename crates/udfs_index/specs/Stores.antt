-- An index as a store of blocks.
use Rattle.std.specs.Prelude.{◌≡◌, ℕ, List, [], map, Option, Some, None}
use Rattle.udfs_lattice.specs.Volumes.{Blocks}
use Rattle.udfs_index.specs.declared.packet.Packet.{Packet}
use Rattle.udfs_index.specs.Copying.{NoneFails}
use Rattle.udfs_index.specs.Slots.{slot_at}
use Rattle.udfs_index.specs.Places.{AreWhole, state_by}

-- the bytes that are known, and none where they are not
abbrev pub bytes_of : Option (List ℕ) → List ℕ
bytes_of None = []
bytes_of (Some bytes) = bytes

-- the state of each block, where the bytes of all inputs are known
abbrev pub states_of : List (Option (List ℕ)) → List Packet → Blocks
states_of contents packets n = state_by (map bytes_of contents) (slot_at packets n)

-- a known block may be read in vain: a call on an input may fail, or the bytes of some input are not known, or it is shorter than it was
abbrev pub MayFail : {S : Type 0} → (S → Type 0) → List (Option (List ℕ)) → List Packet → Type 0
MayFail fails contents packets = (wholes : List (List ℕ)) → contents ≡ map Some wholes → NoneFails fails → AreWhole wholes packets → ⊥
