-- Table files of version 2: what is wrong with any other bytes, and what was read of a file.
use Rattle.std.specs.Prelude.{◌≡◌, ◌≢◌, ℕ, ◌+◌, ◌*◌, ◌^◌, ◌<◌, ◌≤◌, Bool, true, List, [], ◌∷◌, ◌++◌, length, drop, Option, ◌⊎◌}
use Rattle.std.specs.List.{flat_map, AllByRecursion}
use Rattle.std.specs.Int.Bits.{bit_and}
use Rattle.std.specs.Int.RustNames.{count_ones}
use Rattle.std.specs.Io.KnownBytes.{Consumes}
use Rattle.udfs_lattice.specs.declared.facts.Fact.TheVariants.{Unknown, Known, Conflict}
use Rattle.udfs_lattice.specs.States.{State, IsBlock, is_known, is_conflict}
use Rattle.udfs_lattice.specs.Tables.{Table, IsTable, one_entry, join_tables}
use Rattle.udfs_lattice.specs.Records.{table_of_entries}
use Rattle.udfs_reading.specs.declared.error.ReadingError.{ReadingError}
use Rattle.udfs_reading.specs.declared.error.ReadingFault.{ReadingFault}
use Rattle.udfs_reading.specs.declared.error.ReadingFault.TheVariants as fault
use Rattle.udfs_reading.specs.Field.{BlockFails}
use Rattle.udfs_reading.specs.Format.{number, value_of, header, Format}
use Rattle.udfs_reading.specs.Kind.{Kind, kind}
use Rattle.udfs_reading.specs.PacketFile.{packet_magic, Packet, mask_of, content, packet_bytes, packets_of, says_some, table_bytes}

-- the bytes are the file of this table in version 2, and nothing else
pub record IsPacketFile (bytes : List ℕ) (table : Table) : Type 0 where
  pub is_table : IsTable table
  pub spelled : bytes ≡ table_bytes table

-- ---- packets that a file may have

-- what a packet may hold of a block
abbrev pub IsHeld : State → Type 0
IsHeld Unknown = Unit {0}
IsHeld (Known bytes) = IsBlock bytes
IsHeld Conflict = Unit {0}

-- 32 states, not all of them Unknown
pub record AreStates (ss : List State) : Type 0 where
  pub many : length ss ≡ 32
  pub each : AllByRecursion IsHeld ss
  pub some : says_some ss ≡ true

-- the packets' numbers rise strictly, the first of them from `low` on
abbrev pub PacketsRise : ℕ → List Packet → Type 0
PacketsRise low [] = Unit {0}
PacketsRise low (q ∷ qs) = (low ≤ q.0) × (q.0 ≤ 131071) × AreStates q.1 × PacketsRise (q.0 + 1) qs

-- the least number that may come after these
abbrev pub low_after : ℕ → List Packet → ℕ
low_after low [] = low
low_after low (q ∷ qs) = low_after (q.0 + 1) qs

-- the masks share a bit, or no bit is set in either
abbrev pub Clash : ℕ → ℕ → Type 0
Clash known conflict = (bit_and known conflict ≢ 0) ⊎ ((known ≡ 0) × (conflict ≡ 0))

-- the masks share no bit, and a bit is set
abbrev pub AreMasks : ℕ → ℕ → Type 0
AreMasks known conflict = (bit_and known conflict ≡ 0) × (0 < known + conflict)

-- 2048 bytes for each bit that is set
unfoldable pub size_of_blocks : ℕ → ℕ
size_of_blocks known = 2048 * count_ones known

-- the header of a file of `count` packets, and the first packets
abbrev pub packets_front : ℕ → List Packet → List ℕ
packets_front count qs = header packet_magic count ++ flat_map packet_bytes qs

-- ---- a file with a fault

-- where a field begins after the header of a table file of version 2, or its end is due
pub data PacketPlace : Type 0 where
  -- the number of the next of `count` packets, after these
  AtPacket : (count : ℕ) → (done : List Packet) → PacketPlace
  -- the two masks of the packet p
  AtMasks : (count : ℕ) → (done : List Packet) → (p : ℕ) → PacketPlace
  -- the bytes of its known blocks
  AtBlocks : (count : ℕ) → (done : List Packet) → (p : ℕ) → (known : ℕ) → (conflict : ℕ) → PacketPlace
  AtPacketsEnd : (done : List Packet) → PacketPlace

-- packets are still to come, after these
pub record IsUnderPackets (count : ℕ) (done : List Packet) : Type 0 where
  pub more : length done < count
  pub fits : count < 2 ^ 32
  pub each : PacketsRise 0 done

-- the packet p is next after these
abbrev pub IsNextPacket : ℕ → List Packet → ℕ → Type 0
IsNextPacket count done p = IsUnderPackets count done × (low_after 0 done ≤ p) × (p ≤ 131071)

-- the place can occur: the bytes before it have no fault
abbrev pub IsPacketPlace : PacketPlace → Type 0
IsPacketPlace (AtPacket count done) = IsUnderPackets count done
IsPacketPlace (AtMasks count done p) = IsNextPacket count done p
IsPacketPlace (AtBlocks count done p known conflict) = IsNextPacket count done p × (known < 2 ^ 32) × (conflict < 2 ^ 32) × AreMasks known conflict
IsPacketPlace (AtPacketsEnd done) = (length done < 2 ^ 32) × PacketsRise 0 done

-- the bytes before a place
abbrev pub before_packet_place : PacketPlace → List ℕ
before_packet_place (AtPacket count done) = packets_front count done
before_packet_place (AtMasks count done p) = packets_front count done ++ number p
before_packet_place (AtBlocks count done p known conflict) = packets_front count done ++ (number p ++ (number known ++ number conflict))
before_packet_place (AtPacketsEnd done) = packets_front (length done) done

-- the record of a place: the next one, and at the end the last
abbrev pub record_of_packet_place : PacketPlace → ℕ
record_of_packet_place (AtPacket count done) = length done + 1
record_of_packet_place (AtMasks count done p) = length done + 1
record_of_packet_place (AtBlocks count done p known conflict) = length done + 1
record_of_packet_place (AtPacketsEnd done) = length done

-- how many bytes the field at a place has
abbrev pub size_of_packet_place : PacketPlace → ℕ
size_of_packet_place (AtPacket count done) = 4
size_of_packet_place (AtMasks count done p) = 8
size_of_packet_place (AtBlocks count done p known conflict) = size_of_blocks known
size_of_packet_place (AtPacketsEnd done) = 0

-- the whole field at a place breaks its rule, which is this fault
abbrev pub BreaksPacket : PacketPlace → List ℕ → ReadingFault → Type 0
BreaksPacket (AtPacket count done) rest fault.BlockNumber = 131071 < value_of rest
BreaksPacket (AtPacket count done) rest fault.Order = (value_of rest ≤ 131071) × (value_of rest < low_after 0 done)
BreaksPacket (AtMasks count done p) rest fault.State = Clash (value_of rest) (value_of (drop 4 rest))
BreaksPacket (AtPacketsEnd done) rest fault.Trailing = 0 < length rest
BreaksPacket place rest f = ⊥

-- table files of version 2, as a format
abbrev pub packet_format : Format
packet_format = record {
  magic = packet_magic;
  Place = PacketPlace;
  IsPlace = IsPacketPlace;
  before = before_packet_place;
  record_of = record_of_packet_place;
  size_of = size_of_packet_place;
  Breaks = BreaksPacket;
  IsFile = λ bytes count table. IsPacketFile bytes table × (count ≡ length (packets_of table));
}

-- table files of version 2
abbrev pub tables_v2 : Kind
tables_v2 = kind packet_format

-- ---- what was read of it

-- an entry for each state that is not Unknown, the first at block n
abbrev pub entry_at : ℕ → State → List (ℕ × State)
entry_at n Unknown = []
entry_at n (Known bytes) = (n, Known bytes) ∷ []
entry_at n Conflict = (n, Conflict) ∷ []

-- the entries of states, the first of which is that of block n
abbrev pub listed : ℕ → List State → List (ℕ × State)
listed n [] = []
listed n (s ∷ ss) = entry_at n s ++ listed (n + 1) ss

-- the entries of a packet
abbrev pub packet_entries : Packet → List (ℕ × State)
packet_entries q = listed (32 * q.0) q.1

-- the states of the packets, joined
abbrev pub table_of_packets : List Packet → Table
table_of_packets qs = table_of_entries (flat_map packet_entries qs)

-- the state that the two bits of a block give was read, and joined to that of the block
pub record TakesPlace (old new : Option (List ℕ)) (block : ℕ) (known conflict : Bool) (before after : Table) : Type 0 where
  pub taken : State
  pub held : IsHeld taken
  pub known_is : is_known taken ≡ known
  pub conflict_is : is_conflict taken ≡ conflict
  pub given : Consumes old new (content taken)
  pub put : after ≡ join_tables before (one_entry block taken)

-- it was not joined; unless the fault is OutOfMemory, the bytes of a known block were cut
pub record PlaceFails (old new : Option (List ℕ)) (i j number : ℕ) (known : Bool) (e : ReadingError) : Type 0 where
  pub fails : BlockFails old new i j number e
  pub due : (e.fault ≡ fault.OutOfMemory → ⊥) → known ≡ true

-- the states that the masks give were read, and joined to those of their blocks, the first of which is `block`
pub record TakesStates (old new : Option (List ℕ)) (block known conflict : ℕ) (before after : Table) : Type 0 where
  pub taken : List State
  pub many : length taken ≡ 32
  pub each : AllByRecursion IsHeld taken
  pub known_is : mask_of is_known taken ≡ known
  pub conflict_is : mask_of is_conflict taken ≡ conflict
  pub given : Consumes old new (flat_map content taken)
  pub put : after ≡ join_tables before (table_of_entries (listed block taken))

-- one packet was read, with a number from `low` on, and joined to the table
pub record TakesPacket (old new : Option (List ℕ)) (low next : ℕ) (before after : Table) : Type 0 where
  pub taken : Packet
  pub above : low ≤ taken.0
  pub there : taken.0 ≤ 131071
  pub states : AreStates taken.1
  pub given : Consumes old new (packet_bytes taken)
  pub next_is : next ≡ taken.0 + 1
  pub put : after ≡ join_tables before (table_of_packets (taken ∷ []))

-- this many packets were read, and joined to the table
pub record TakesPackets (old new : Option (List ℕ)) (count low : ℕ) (before after : Table) : Type 0 where
  pub taken : List Packet
  pub many : length taken ≡ count
  pub rises : PacketsRise 0 taken
  pub low_is : low_after 0 taken ≡ low
  pub given : Consumes old new (flat_map packet_bytes taken)
  pub put : after ≡ join_tables before (table_of_packets taken)
