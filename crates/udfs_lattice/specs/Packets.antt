-- A packet: two masks and the stored blocks, as a table of the places 0 to 31.
use Rattle.std.specs.Prelude.{◌≡◌, ℕ, zero, suc, ◌+◌, ◌-◌, ◌<◌, ◌==◌, Bool, cond, List, [], ◌∷◌, length, All, Option, None, Some, slice_index_or, map}
use Rattle.std.specs.Int.{bit_at}
use Rattle.std.specs.FinMap as fin
use Rattle.std.specs.Global.{Box}
use Rattle.udfs_lattice.specs.declared.facts.Fact.TheVariants.{Unknown, Known, Conflict}
use Rattle.udfs_lattice.specs.States.{State, IsBlock}
use Rattle.udfs_lattice.specs.Tables.{Table, Held, state_of}

-- what a state at place i of a packet may be
abbrev pub IsPlaceState : ℕ → State → Type 0
IsPlaceState i Unknown = Unit {0}
IsPlaceState i (Known bytes) = (i < 32) × IsBlock bytes
IsPlaceState i Conflict = i < 32

-- the packets that there are: places 0 to 31 of 2048 bytes each
abbrev pub IsPacketTable : Table → Type 0
IsPacketTable t = (i : ℕ) → IsPlaceState i (state_of t i)

-- u is t with this state at place i
abbrev pub IsSetTo : Table → ℕ → State → Table → Type 0
IsSetTo t i s u = (q : ℕ) → state_of u q ≡ cond (q == i) s (state_of t q)

-- the bits of the mask are the places whose states pass the test
abbrev pub IsMaskOf : (State → Bool) → Table → ℕ → Type 0
IsMaskOf test t mask = (i : ℕ) → (bit_at mask i == 1) ≡ test (state_of t i)

-- how many of the low i bits are set
unfoldable pub rank : ℕ → ℕ → ℕ
rank mask zero = 0
rank mask (suc i) = rank mask i + bit_at mask i

-- what lies in the boxes
abbrev pub box_values : List (Box (List ℕ)) → List (List ℕ)
box_values boxes = map (λ b. b.value) boxes

-- what the masks and the stored blocks hold at bit i: the known blocks lie in the order of their bits
abbrev pub held_at : ℕ → ℕ → List (List ℕ) → ℕ → Option Held
held_at known conflict blocks i =
    cond (bit_at known i == 1) (Some (Some (slice_index_or blocks (rank known i) []))) (cond (bit_at conflict i == 1) (Some None) None)

-- t with what is found at n put in, if anything is
unfoldable pub add_found : Table → ℕ → Option Held → Table
add_found t n None = t
add_found t n (Some h) = fin.insert t n h

-- the table that holds f n at each n below a number
unfoldable pub table_below : (ℕ → Option Held) → ℕ → Table
table_below f zero = fin.empty
table_below f (suc n) = add_found (table_below f n) n (f n)

-- the table of a packet's 32 places, by its two masks and its known blocks in order
unfoldable pub table_packet : ℕ → ℕ → List (List ℕ) → Table
table_packet known conflict blocks = table_below (held_at known conflict blocks) 32

-- no bit is in both masks, and as many blocks are stored as bits are known
pub record IsPacket (known conflict : ℕ) (blocks : List (List ℕ)) : Type 0 where
  pub apart : (i : ℕ) → i < 32 → bit_at known i ≡ 1 → bit_at conflict i ≡ 0
  pub stored : length blocks ≡ rank known 32
  pub whole : All IsBlock blocks

-- an entry in front of others, where the state is not Unknown
abbrev pub listed_at : ℕ → State → List (ℕ × State) → List (ℕ × State)
listed_at i Unknown rest = rest
listed_at i (Known bytes) rest = (i, Known bytes) ∷ rest
listed_at i Conflict rest = (i, Conflict) ∷ rest

-- the entries of this many places, from place i on
unfoldable pub entries_from : Table → ℕ → ℕ → List (ℕ × State)
entries_from t i zero = []
entries_from t i (suc m) = listed_at i (state_of t i) (entries_from t (i + 1) m)

-- the entries from place i of a packet on
abbrev pub entries_left : Table → ℕ → List (ℕ × State)
entries_left t i = entries_from t i (32 - i)

-- this is the first entry from place i on, and the others are those after its place
abbrev pub IsFirstLeft : Table → ℕ → ℕ × State → Type 0
IsFirstLeft t i e = (e.0 < 32) × (entries_left t i ≡ e ∷ entries_left t (e.0 + 1))
