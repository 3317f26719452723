-- What an index says of a block: that nothing is known of it, where its bytes are, or that it is in conflict.
use Rattle.std.specs.Prelude.{◌≡◌, ℕ, ◌/◌, ◌%◌, ◌<◌, ◌==◌, Bool, true, false, cond, List, Option, None, Some, slice_index_or}
use Rattle.std.specs.Int.{bit_at}
use Rattle.std.specs.List.{slice_get}
use Rattle.udfs_lattice.specs.declared.facts.Fact.{Fact}
use Rattle.udfs_lattice.specs.declared.facts.Fact.TheVariants.{Unknown, Known, Conflict}
use Rattle.udfs_lattice.specs.Tables.{is_named}
use Rattle.udfs_index.specs.declared.packet.Packet.{Packet}

-- a known block has a place
abbrev pub Slot : Type 0
Slot = Fact ℕ

-- what the two bits of a block say, and its place
abbrev pub slot_by : Bool → Bool → ℕ → Slot
slot_by true conflict place = Known place
slot_by false true place = Conflict
slot_by false false place = Unknown

-- what a packet says of its block i
abbrev pub slot_in : Packet → ℕ → Slot
slot_in p i = slot_by (bit_at p.known i == 1) (bit_at p.conflict i == 1) (slice_index_or p.places i 0)

-- the packet says this of its block i, and of the others what it said
abbrev pub IsSlotSet : Packet → ℕ → Slot → Packet → Type 0
IsSlotSet p i slot q = (j : ℕ) → j < 32 → slot_in q j ≡ cond (j == i) slot (slot_in p j)

-- where there is no packet, nothing is known
abbrev pub slot_found : Option Packet → ℕ → Slot
slot_found None i = Unknown
slot_found (Some p) i = slot_in p i

-- what the packets say of block n
abbrev pub slot_at : List Packet → ℕ → Slot
slot_at packets n = slot_found (slice_get packets (n / 32)) (n % 32)

-- the packets say this of block n, and of the others what they said
abbrev pub AreSlotsSet : List Packet → ℕ → Slot → List Packet → Type 0
AreSlotsSet old n slot new = (q : ℕ) → slot_at new q ≡ cond (q == n) slot (slot_at old q)

-- the packets say what they said
abbrev pub AreSlotsSame : List Packet → List Packet → Type 0
AreSlotsSame old new = (q : ℕ) → slot_at new q ≡ slot_at old q

-- ---- what packets forget

-- the packets say nothing of these blocks, and of the others what they said
abbrev pub AreSlotsForgotten : List Packet → List ℕ → List Packet → Type 0
AreSlotsForgotten old blocks new = (q : ℕ) → slot_at new q ≡ cond (is_named blocks q) Unknown (slot_at old q)

-- the slot itself, but Unknown for Conflict
abbrev pub settled : Slot → Slot
settled Unknown = Unknown
settled (Known place) = Known place
settled Conflict = Unknown

-- the packets say nothing of each block that was in conflict, and of the others what they said
abbrev pub AreSlotsSettled : List Packet → List Packet → Type 0
AreSlotsSettled old new = (q : ℕ) → slot_at new q ≡ settled (slot_at old q)

-- ---- the masks of a packet

-- whether the block is known
abbrev pub is_placed : Slot → Bool
is_placed Unknown = false
is_placed (Known place) = true
is_placed Conflict = false

-- whether the block is in conflict
abbrev pub is_disputed : Slot → Bool
is_disputed Unknown = false
is_disputed (Known place) = false
is_disputed Conflict = true
