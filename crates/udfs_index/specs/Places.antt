-- Where the bytes of a block are, and what an index says of the inputs that it reads.
use Rattle.std.specs.Prelude.{◌≡◌, ℕ, ◌+◌, ◌/◌, ◌%◌, ◌^◌, ◌<◌, ◌≤◌, List, [], length, take, drop, map, Option, Some, get_or}
use Rattle.std.specs.Option.{option_map}
use Rattle.udfs_lattice.specs.declared.facts.Fact.TheVariants.{Unknown, Known, Conflict}
use Rattle.udfs_lattice.specs.States.{State}
use Rattle.udfs_lattice.specs.Tables.{Table, state_of}
use Rattle.udfs_index.specs.declared.packet.Packet.{Packet}
use Rattle.udfs_index.specs.Slots.{Slot, slot_at}

-- what comes after the first `at` bytes of this content, where it is known
abbrev pub behind : ℕ → Option (List ℕ) → Option (List ℕ)
behind at content = option_map (drop at) content

-- the bytes of these inputs from a place on: the place names an input, from 0, and an offset in it
abbrev pub from_place : List (List ℕ) → ℕ → List ℕ
from_place wholes place = drop (place % 2 ^ 44) (get_or wholes (place / 2 ^ 44) [])

-- the bytes of a block at a place
abbrev pub bytes_at : List (List ℕ) → ℕ → List ℕ
bytes_at wholes place = take 2048 (from_place wholes place)

-- the input of the place has `size` bytes from the place on
abbrev pub AreHeld : List (List ℕ) → ℕ → ℕ → Type 0
AreHeld wholes place size = place % 2 ^ 44 + size ≤ length (get_or wholes (place / 2 ^ 44) [])

-- if the block is known, its input has all 2048 bytes from its place on
abbrev pub IsWholeAt : List (List ℕ) → Slot → Type 0
IsWholeAt wholes Unknown = Unit {0}
IsWholeAt wholes (Known place) = AreHeld wholes place 2048
IsWholeAt wholes Conflict = Unit {0}

-- for each known block, its input has all 2048 bytes from its place on
abbrev pub AreWhole : List (List ℕ) → List Packet → Type 0
AreWhole wholes packets = (n : ℕ) → IsWholeAt wholes (slot_at packets n)

-- what a slot says of the inputs
abbrev pub state_by : List (List ℕ) → Slot → State
state_by wholes Unknown = Unknown
state_by wholes (Known place) = Known (bytes_at wholes place)
state_by wholes Conflict = Conflict

-- the number of the input of a place is below `inputs`
abbrev pub IsInside : ℕ → Slot → Type 0
IsInside inputs Unknown = Unit {0}
IsInside inputs (Known place) = place / 2 ^ 44 < inputs
IsInside inputs Conflict = Unit {0}

-- where the bytes of all inputs are known, the packets say what the table does
abbrev pub Says : List (Option (List ℕ)) → List Packet → Table → Type 0
Says contents packets t = (wholes : List (List ℕ)) → contents ≡ map Some wholes → (n : ℕ) → state_of t n ≡ state_by wholes (slot_at packets n)
