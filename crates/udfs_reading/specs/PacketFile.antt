-- Table files of version 2: the states of 32 blocks in a packet, and the one spelling of each table.
use Rattle.std.specs.Prelude.{ℕ, zero, suc, ◌+◌, ◌*◌, Bool, true, false, cond, List, [], ◌∷◌, ◌++◌, length, codes}
use Rattle.std.specs.List.{flat_map}
use Rattle.udfs_lattice.specs.declared.facts.Fact.TheVariants.{Unknown, Known, Conflict}
use Rattle.udfs_lattice.specs.States.{State, is_known, is_conflict}
use Rattle.udfs_lattice.specs.Tables.{Table, state_of}
use Rattle.udfs_reading.specs.Format.{number, header}

-- the first eight bytes of a table file of version 2
unfoldable pub packet_magic : List ℕ
packet_magic = codes "UDFTABL2"

-- a packet's number p, and the states of its blocks, of which the i-th is block 32 * p + i
abbrev pub Packet : Type 0
Packet = ℕ × List State

-- bit i is set where the i-th state passes the test
abbrev pub mask_of : (State → Bool) → List State → ℕ
mask_of test [] = 0
mask_of test (s ∷ ss) = cond (test s) 1 0 + 2 * mask_of test ss

-- the bytes of a block that is known
abbrev pub content : State → List ℕ
content Unknown = []
content (Known bytes) = bytes
content Conflict = []

-- the mask of the known blocks, and that of the blocks in conflict
abbrev pub masks_bytes : List State → List ℕ
masks_bytes ss = number (mask_of is_known ss) ++ number (mask_of is_conflict ss)

-- the number, the masks, and the bytes of the known blocks
abbrev pub packet_bytes : Packet → List ℕ
packet_bytes q = number q.0 ++ (masks_bytes q.1 ++ flat_map content q.1)

-- the file of these packets
unfoldable pub packed_file : List Packet → List ℕ
packed_file qs = header packet_magic (length qs) ++ flat_map packet_bytes qs

-- ---- the packets of a table

-- the states of this many blocks, from block n on
unfoldable pub states_from : Table → ℕ → ℕ → List State
states_from t n zero = []
states_from t n (suc m) = state_of t n ∷ states_from t (n + 1) m

-- whether one of the states is not Unknown
abbrev pub says_some : List State → Bool
says_some [] = false
says_some (Unknown ∷ ss) = says_some ss
says_some (Known bytes ∷ ss) = true
says_some (Conflict ∷ ss) = true

-- a packet, unless all its blocks are Unknown
abbrev pub some_packet : Packet → List Packet
some_packet q = cond (says_some q.1) (q ∷ []) []

-- the packets of a table with numbers below p, ascending
unfoldable pub packets_below : Table → ℕ → List Packet
packets_below t zero = []
packets_below t (suc p) = packets_below t p ++ some_packet (p, states_from t (32 * p) 32)

-- all packets of a table
unfoldable pub packets_of : Table → List Packet
packets_of t = packets_below t 131072

-- the one spelling of a table in version 2
abbrev pub table_bytes : Table → List ℕ
table_bytes t = packed_file (packets_of t)
