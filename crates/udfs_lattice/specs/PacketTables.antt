-- The table of a map of packets: block n is at place n % 32 of the packet n / 32.
use Rattle.std.specs.Prelude.{◌≡◌, All, ℕ, ◌/◌, ◌%◌, ◌<◌, ◌==◌, cond, List, [], ◌∷◌, ◌++◌, map, ◌+◌, ◌*◌, Option, Some, None}
use Rattle.std.specs.Ordering.{nat_cmp}
use Rattle.std.specs.Map.{lookup}
use Rattle.std.specs.BTreeMap.{BTreeMap, IsOrdered, is_at}
use Rattle.std.specs.FinMap as fin
use Rattle.std.specs.Borrow.{Bor}
use Rattle.udfs_lattice.specs.declared.facts.Fact.TheVariants.{Unknown}
use Rattle.udfs_lattice.specs.States.{State}
use Rattle.udfs_lattice.specs.Tables.{Table, Held, state_of, empty_table, without_conflict}
use Rattle.udfs_lattice.specs.Packets.{IsPacketTable, table_below, entries_left}

-- the packet that a look-up finds; where it finds none, the one whose blocks are all unknown
abbrev pub found_packet : Option Table → Table
found_packet None = empty_table
found_packet (Some t) = t

-- the packet of this number
abbrev pub packet_at : List (ℕ × Table) → ℕ → Table
packet_at ps k = found_packet (lookup (is_at (nat_cmp k)) ps)

-- what the packets hold of block n
abbrev pub held_in : List (ℕ × Table) → ℕ → Option Held
held_in ps n = fin.get (packet_at ps (n / 32)) (n % 32)

-- the table in which block n has the state of place n % 32 of packet n / 32
unfoldable pub table_packets : List (ℕ × Table) → Table
table_packets ps = table_below (held_in ps) 4194304

-- what the one packet of number k holds of block n
abbrev pub held_in_one : ℕ → Table → ℕ → Option Held
held_in_one k t n = cond (n / 32 == k) (fin.get t (n % 32)) None

-- the table of one packet
unfoldable pub one_packet : ℕ → Table → Table
one_packet k t = table_below (held_in_one k t) 4194304

-- a packet that is found has a number below 131,072, and is one that there is
abbrev pub IsPacketFound : ℕ → Option Table → Type 0
IsPacketFound k None = Unit {0}
IsPacketFound k (Some t) = (k < 131072) × IsPacketTable t

-- each number has at most one packet, and that packet is one that there can be
abbrev pub ArePackets : List (ℕ × Table) → Type 0
ArePackets ps = (k : ℕ) → IsPacketFound k (lookup (is_at (nat_cmp k)) ps)

-- the packets rise, and each is one that there is
pub record IsPacketMap (packets : BTreeMap ℕ Table) : Type 0 where
  pub ordered : IsOrdered nat_cmp packets
  pub each : ArePackets packets.entries

-- an entry of the packet k as an entry of the table
abbrev pub block_entry : ℕ → ℕ × State → ℕ × State
block_entry k e = (k * 32 + e.0, e.1)

-- the entries of a packet as those of the table
abbrev pub block_entries : ℕ → List (ℕ × State) → List (ℕ × State)
block_entries k es = map (block_entry k) es

-- the entries of the packets, one packet after the other
abbrev pub entries_of_packets : List (ℕ × Table) → List (ℕ × State)
entries_of_packets [] = []
entries_of_packets (p ∷ ps) = block_entries p.0 (entries_left p.1 0) ++ entries_of_packets ps

-- every block of the packet of this number is unknown
abbrev pub IsUnknownPacket : Table → ℕ → Type 0
IsUnknownPacket t k = (q : ℕ) → q / 32 ≡ k → state_of t q ≡ Unknown

-- the entries from a place on of the packet under way, if there is one
abbrev pub entries_here : Option (ℕ × Bor Table) → ℕ → List (ℕ × State)
entries_here None at = []
entries_here (Some p) at = block_entries p.0 (entries_left p.1.now at)

-- a packet that is found has a number below 131072
abbrev pub IsHere : Option (ℕ × Bor Table) → Type 0
IsHere None = Unit {0}
IsHere (Some p) = p.0 < 131072

-- the packet under way and those after it have numbers below 131,072
abbrev pub AreEntries : Option (ℕ × Bor Table) → List (ℕ × Table) → Type 0
AreEntries here ps = IsHere here × All (λ (e : ℕ × Table). e.0 < 131072) ps

-- the first entry of the packets is at this place of the packet k, and `rest` are the packets after it
pub record IsEntryFound (packets : List (ℕ × Table)) (k : ℕ) (t : Table) (i : ℕ) (s : State) (rest : List (ℕ × Table)) : Type 0 where
  pub number : k < 131072
  pub place : i < 32
  pub entries : entries_of_packets packets ≡ (k * 32 + i, s) ∷ (block_entries k (entries_left t (i + 1)) ++ entries_of_packets rest)

-- u is t without the conflicts of the packet of this number
abbrev pub IsSettledIn : Table → ℕ → Table → Type 0
IsSettledIn t k u = (q : ℕ) → state_of u q ≡ cond (q / 32 == k) (without_conflict (state_of t q)) (state_of t q)
