-- The packets of an index and those of the table that it shows.
use Rattle.std.proofs.Common.{◌≡◌, ◌≢◌, ℕ, zero, suc, ◌+◌, ◌-◌, ◌*◌, ◌/◌, ◌%◌, ◌^◌, ◌<◌, ◌≤◌, ◌==◌, Bool, true, false, not, cond, List, [], ◌∷◌, ◌++◌, length, Option, None, Some, refl, sym, ap, ◌∙◌, arith, append-nil, append_assoc, length-append, length-drop, take, drop, get_or, min, subst}
use Rattle.std.specs.Int.{bit_at}
use Rattle.std.specs.List.{slice_get, flat_map}
use Rattle.std.proofs.lemmas.Bool.{eqb-true, eqb-false, ne_eqb}
use Rattle.std.proofs.lemmas.List.{length-take}
use Rattle.std.proofs.lemmas.List.Concat.{flat_map-append}
use Rattle.std.proofs.lemmas.Nat.Bits.{bit_at_lowest, bit_at-suc}
use Rattle.udfs_lattice.specs.declared.facts.Fact.TheVariants.{Unknown, Known, Conflict}
use Rattle.udfs_lattice.specs.States.{State, is_known, is_conflict}
use Rattle.udfs_lattice.specs.Tables.{Table, state_of, IsStateAt, IsTable}
use Rattle.udfs_reading.specs.Format.{number, header}
use Rattle.udfs_reading.specs.PacketFile.{Packet as Packing, content, mask_of, packet_bytes, packet_magic, says_some, some_packet, states_from, packets_below, packets_of, packed_file}
use Rattle.udfs_reading.proofs.PacketMasks.{halve, some_mask, mask_some}
use Rattle.udfs_reading.proofs.PacketStates.{states-next, states-none, states-append}
use Rattle.udfs_reading.proofs.PacketTables.{below_none, below_front}
use Rattle.udfs_index.specs.declared.packet.Packet.{Packet}
use Rattle.udfs_index.specs.Slots.{Slot, slot_at, slot_in, slot_found, is_placed, is_disputed}
use Rattle.udfs_index.specs.Places.{bytes_at, state_by, AreWhole, IsWholeAt}
use Rattle.udfs_index.specs.Copying.{IsShown}

-- ---- the masks

low_bit : (r : ℕ) → r < 2 → cond (r == 1) 1 0 ≡ r
low_bit zero h = refl
low_bit (suc zero) h = refl
low_bit (suc (suc r)) h = absurd (omega (arith, h))

-- the mask of the states is the one whose bits tell them
mask_from : (test : State → Bool) (t : Table) (m n k : ℕ) → k < 2 ^ m → ((j : ℕ) → j < m → (bit_at k j == 1) ≡ test (state_of t (n + j))) → mask_of test (states_from t n m) ≡ k
mask_from test t zero n k fits bits = ap (mask_of test) (states-none t n) ∙ omega (arith, fits)
mask_from test t (suc m) n k fits bits =
    let z : n + 0 ≡ n = omega arith in
    let rest = mask_from test t m (n + 1) (k / 2) (halve k m fits)
    (λ j lt. let y : n + suc j ≡ (n + 1) + j = omega arith in ap (λ (b : ℕ). b == 1) (sym (bit_at-suc k j)) ∙ bits (suc j) (omega (arith, lt)) ∙ ap (λ (q : ℕ). test (state_of t q)) y) in
    let low : test (state_of t n) ≡ (k % 2 == 1) = ap (λ (q : ℕ). test (state_of t q)) (sym z) ∙ sym (bits 0 (omega arith)) ∙ ap (λ (b : ℕ). b == 1) (bit_at_lowest k) in
    ap (mask_of test) (states-next t n m)
    ∙ ap (λ (b : Bool). cond b 1 0 + 2 * mask_of test (states_from t (n + 1) m)) low
    ∙ ap (λ (b : ℕ). cond (k % 2 == 1) 1 0 + 2 * b) rest
    ∙ ap (λ (b : ℕ). b + 2 * (k / 2)) (low_bit (k % 2) (omega arith)) ∙ omega arith

pub placed_state : (wholes : List (List ℕ)) (s : Slot) → is_placed s ≡ is_known (state_by wholes s)
placed_state wholes Unknown = refl
placed_state wholes (Known place) = refl
placed_state wholes Conflict = refl

pub disputed_state : (wholes : List (List ℕ)) (s : Slot) → is_disputed s ≡ is_conflict (state_by wholes s)
disputed_state wholes Unknown = refl
disputed_state wholes (Known place) = refl
disputed_state wholes Conflict = refl

-- ---- the table that an index shows

shown_block : (wholes : List (List ℕ)) (packets : List Packet) (t : Table) (index i : ℕ) (found : Option Packet) → IsShown wholes packets t → slice_get packets index ≡ found → i < 32 → state_of t (32 * index + i) ≡ state_by wholes (slot_found found i)
shown_block wholes packets t index i found shown got lt =
    let q : (32 * index + i) / 32 ≡ index = omega arith in
    let r : (32 * index + i) % 32 ≡ i = omega arith in
    shown (32 * index + i)
    ∙ ap (λ (k : ℕ). state_by wholes (slot_found (slice_get packets k) ((32 * index + i) % 32))) q
    ∙ ap (λ (k : ℕ). state_by wholes (slot_found (slice_get packets index) k)) r
    ∙ ap (λ (o : Option Packet). state_by wholes (slot_found o i)) got

-- the masks of a packet are those of its blocks' states
pub known_shown : (wholes : List (List ℕ)) (packets : List Packet) (t : Table) (index k : ℕ) (p : Packet) → IsShown wholes packets t → slice_get packets index ≡ Some p → k < 2 ^ 32 → ((i : ℕ) → i < 32 → (bit_at k i == 1) ≡ is_placed (slot_in p i)) → mask_of is_known (states_from t (32 * index) 32) ≡ k
known_shown wholes packets t index k p shown got fits bits =
    mask_from is_known t 32 (32 * index) k fits (λ i lt. bits i lt ∙ placed_state wholes (slot_in p i) ∙ ap is_known (sym (shown_block wholes packets t index i (Some p) shown got lt)))

pub conflict_shown : (wholes : List (List ℕ)) (packets : List Packet) (t : Table) (index k : ℕ) (p : Packet) → IsShown wholes packets t → slice_get packets index ≡ Some p → k < 2 ^ 32 → ((i : ℕ) → i < 32 → (bit_at k i == 1) ≡ is_disputed (slot_in p i)) → mask_of is_conflict (states_from t (32 * index) 32) ≡ k
conflict_shown wholes packets t index k p shown got fits bits =
    mask_from is_conflict t 32 (32 * index) k fits (λ i lt. bits i lt ∙ disputed_state wholes (slot_in p i) ∙ ap is_conflict (sym (shown_block wholes packets t index i (Some p) shown got lt)))

no_bit : (j : ℕ) → (bit_at 0 j == 1) ≡ false
no_bit zero = refl
no_bit (suc j) = ap (λ (b : ℕ). b == 1) (bit_at-suc 0 j) ∙ no_bit j

-- where there is no packet, no bit is set
pub unshown : (test : State → Bool) (wholes : List (List ℕ)) (packets : List Packet) (t : Table) (index : ℕ) → test Unknown ≡ false → IsShown wholes packets t → slice_get packets index ≡ None → mask_of test (states_from t (32 * index) 32) ≡ 0
unshown test wholes packets t index none shown got =
    mask_from test t 32 (32 * index) 0 (omega arith) (λ i lt. no_bit i ∙ sym none ∙ ap test (sym (shown_block wholes packets t index i None shown got lt)))

said_by : (ss : List State) (b : Bool) → says_some ss ≡ b → mask_of is_known ss ≡ 0 → mask_of is_conflict ss ≡ 0 → b ≡ false
said_by ss true is k c = let some = some_mask ss is in absurd (omega arith)
said_by ss false is k c = refl

some_bit : (k : ℕ) → k ≢ 0 → 0 < k
some_bit zero h = absurd (h refl)
some_bit (suc k) h = omega arith

-- a packet says something where a bit of its masks is set
pub said_known : (ss : List State) (k : ℕ) → mask_of is_known ss ≡ k → k ≢ 0 → not (k == 0) ≡ says_some ss
said_known ss k is h = let some = some_bit k h in ap not (ne_eqb k 0 h) ∙ sym (mask_some ss (omega (arith, is, some)))

said_if : (ss : List State) (k c : ℕ) (b : Bool) → (c == 0) ≡ b → mask_of is_known ss ≡ k → mask_of is_conflict ss ≡ c → k ≡ 0 → not b ≡ says_some ss
said_if ss k c true e is has none = sym (said_by ss (says_some ss) refl (is ∙ none) (has ∙ eqb-true c 0 e))
said_if ss k c false e is has none = let some = some_bit c (eqb-false c 0 e) in sym (mask_some ss (omega (arith, has, some)))

pub said_conflict : (ss : List State) (k c : ℕ) → mask_of is_known ss ≡ k → mask_of is_conflict ss ≡ c → k ≡ 0 → not (c == 0) ≡ says_some ss
said_conflict ss k c is has none = said_if ss k c (c == 0) refl is has none

-- ---- the blocks that are copied

-- of a block that is not known nothing is copied
pub unplaced : (wholes : List (List ℕ)) (s : Slot) → ((place : ℕ) → s ≡ Known place → ⊥) → content (state_by wholes s) ≡ []
unplaced wholes Unknown h = refl
unplaced wholes (Known place) h = absurd (h place refl)
unplaced wholes Conflict h = refl

-- the bytes of a known block are copied
pub placed : (wholes : List (List ℕ)) (s : Slot) (place : ℕ) (there : List ℕ) → s ≡ Known place → bytes_at wholes place ≡ there → there ≡ content (state_by wholes s)
placed wholes s place there is e = sym e ∙ sym (ap (λ (x : Slot). content (state_by wholes x)) is)

-- what comes of no blocks
pub blocks_none : (part : State → List ℕ) (t : Table) (n : ℕ) → flat_map part (states_from t n 0) ≡ []
blocks_none part t n = ap (flat_map part) (states-none t n)

-- and of one more block
pub blocks_more : (part : State → List ℕ) (t : Table) (n m : ℕ) → flat_map part (states_from t n (m + 1)) ≡ flat_map part (states_from t n m) ++ part (state_of t (n + m))
blocks_more part t n m =
    let one : states_from t (n + m) 1 ≡ state_of t (n + m) ∷ [] = states-next t (n + m) 0 ∙ ap (λ (l : List State). state_of t (n + m) ∷ l) (states-none t (n + m + 1)) in
    ap (flat_map part) (states-append t n m 1 ∙ ap (λ (l : List State). states_from t n m ++ l) one)
    ∙ flat_map-append part (states_from t n m) (state_of t (n + m) ∷ [])
    ∙ ap (λ (l : List ℕ). flat_map part (states_from t n m) ++ l) (append-nil (part (state_of t (n + m))))

-- a block, and what stands before and behind it
pub blocks_cut : (part : State → List ℕ) (t : Table) (n m end : ℕ) → m < end → (rest : List ℕ) × ((flat_map part (states_from t n m) ++ part (state_of t (n + m))) ++ rest ≡ flat_map part (states_from t n end))
blocks_cut part t n m end lt =
    let later = states_from t (n + (m + 1)) (end - (m + 1)) in
    let z : (m + 1) + (end - (m + 1)) ≡ end = omega (arith, lt) in (
      flat_map part later,
      ap (λ (l : List ℕ). l ++ flat_map part later) (sym (blocks_more part t n m)) ∙ sym (flat_map-append part (states_from t n (m + 1)) later) ∙ ap (flat_map part) (sym (states-append t n (m + 1) (end - (m + 1))) ∙ ap (states_from t n) z),
    )

-- a packet's number, its masks and the bytes of its known blocks
pub packet_spelled : (t : Table) (index k c : ℕ) → mask_of is_known (states_from t (32 * index) 32) ≡ k → mask_of is_conflict (states_from t (32 * index) 32) ≡ c
    → (number index ++ (number k ++ number c)) ++ flat_map content (states_from t (32 * index) 32) ≡ packet_bytes (index, states_from t (32 * index) 32)
packet_spelled t index k c known conflict =
    let ss = states_from t (32 * index) 32 in
    let blocks = flat_map content ss in
    append_assoc (number index) (number k ++ number c) blocks
    ∙ ap (λ (x : ℕ). number index ++ ((number x ++ number c) ++ blocks)) (sym known)
    ∙ ap (λ (x : ℕ). number index ++ ((number (mask_of is_known ss) ++ number x) ++ blocks)) (sym conflict)

-- ---- all packets

pub below_more : (t : Table) (p : ℕ) → packets_below t (p + 1) ≡ packets_below t p ++ some_packet (p, states_from t (32 * p) 32)
unfolding packets_below
below_more t p = let z : p + 1 ≡ suc p = omega arith in ap (packets_below t) z

pub packed_more : (t : Table) (p : ℕ) → flat_map packet_bytes (packets_below t (p + 1)) ≡ flat_map packet_bytes (packets_below t p) ++ flat_map packet_bytes (some_packet (p, states_from t (32 * p) 32))
packed_more t p = ap (flat_map packet_bytes) (below_more t p) ∙ flat_map-append packet_bytes (packets_below t p) (some_packet (p, states_from t (32 * p) 32))

-- a packet, and what stands before and behind it
pub packed_cut : (t : Table) (p end : ℕ) → p < end → (rest : List ℕ) × ((flat_map packet_bytes (packets_below t p) ++ flat_map packet_bytes (some_packet (p, states_from t (32 * p) 32))) ++ rest ≡ flat_map packet_bytes (packets_below t end))
packed_cut t p end lt =
    let split = below_front t (p + 1) end (omega (arith, lt)) (packets_below t (p + 1)) refl in (
      flat_map packet_bytes split.0,
      ap (λ (l : List ℕ). l ++ flat_map packet_bytes split.0) (sym (packed_more t p)) ∙ sym (flat_map-append packet_bytes (packets_below t (p + 1)) split.0) ∙ ap (flat_map packet_bytes) (sym split.1),
    )

-- the file of all packets
pub packed_whole : (t : Table) (count end : ℕ) → end ≡ 131072 → count ≡ length (packets_below t end) → header packet_magic count ++ flat_map packet_bytes (packets_below t end) ≡ packed_file (packets_of t)
unfolding packed_file packets_of
packed_whole t count end e is =
    ap (λ (n : ℕ). header packet_magic n ++ flat_map packet_bytes (packets_below t end)) is
    ∙ ap (λ (k : ℕ). header packet_magic (length (packets_below t k)) ++ flat_map packet_bytes (packets_below t k)) e

pub all_packets : (t : Table) (end : ℕ) → end ≡ 131072 → packets_below t end ≡ packets_of t
unfolding packets_of
all_packets t end e = ap (packets_below t) e

-- ---- counted

pub counted_none : (t : Table) → 0 ≡ length (packets_below t 0)
counted_none t = sym (ap length (below_none t))

counted_by : (q : Packing) (qs : List Packing) (b : Bool) → says_some q.1 ≡ b → length (qs ++ some_packet q) ≡ length qs + cond b 1 0
counted_by q qs true is = ap (λ (x : Bool). length (qs ++ cond x (q ∷ []) [])) is ∙ length-append qs (q ∷ [])
counted_by q qs false is = ap (λ (x : Bool). length (qs ++ cond x (q ∷ []) [])) is ∙ length-append qs []

pub counted_more : (t : Table) (p count : ℕ) (b : Bool) → b ≡ says_some (states_from t (32 * p) 32) → count ≡ length (packets_below t p) → count + cond b 1 0 ≡ length (packets_below t (p + 1))
counted_more t p count b is was =
    ap (λ (n : ℕ). n + cond b 1 0) was ∙ sym (counted_by (p, states_from t (32 * p) 32) (packets_below t p) b (sym is)) ∙ sym (ap length (below_more t p))

pub counted_same : (t : Table) (p count : ℕ) → false ≡ says_some (states_from t (32 * p) 32) → count ≡ length (packets_below t p) → count ≡ length (packets_below t (p + 1))
counted_same t p count is was = let more : count + 0 ≡ length (packets_below t (p + 1)) = counted_more t p count false is was in omega (arith, more)

-- a packet of which nothing is said is none
pub no_packet : (t : Table) (p : ℕ) → false ≡ says_some (states_from t (32 * p) 32) → flat_map packet_bytes (some_packet (p, states_from t (32 * p) 32)) ≡ []
no_packet t p is = ap (λ (b : Bool). flat_map packet_bytes (cond b ((p, states_from t (32 * p) 32) ∷ []) [])) (sym is)

-- and the others are
pub one_packet : (t : Table) (p : ℕ) → true ≡ says_some (states_from t (32 * p) 32) → packet_bytes (p, states_from t (32 * p) 32) ≡ flat_map packet_bytes (some_packet (p, states_from t (32 * p) 32))
one_packet t p is =
    sym (ap (λ (b : Bool). flat_map packet_bytes (cond b ((p, states_from t (32 * p) 32) ∷ []) [])) (sym is) ∙ append-nil (packet_bytes (p, states_from t (32 * p) 32)))

-- ---- known blocks are whole

whole_bytes : (o : ℕ) (w : List ℕ) → length (take 2048 (drop o w)) ≡ 2048 → o + 2048 ≤ length w
whole_bytes o w is =
    let taken : min 2048 (length (drop o w)) ≡ 2048 = sym (length-take 2048 (drop o w)) ∙ is in
    let left : length (drop o w) ≡ length w - o = length-drop o w in
    omega (arith, taken, left)

whole_by : (wholes : List (List ℕ)) (n : ℕ) (slot : Slot) (s : State) → s ≡ state_by wholes slot → IsStateAt n s → IsWholeAt wholes slot
whole_by wholes n Unknown s e is = tt
whole_by wholes n (Known place) s e is =
    let there : IsStateAt n (Known (bytes_at wholes place)) = subst (IsStateAt n) e is in
    whole_bytes (place % 2 ^ 44) (get_or wholes (place / 2 ^ 44) []) there.1.whole
whole_by wholes n Conflict s e is = tt

-- of the blocks of a table that there can be all bytes stand in the inputs
pub whole_shown : (wholes : List (List ℕ)) (packets : List Packet) (t : Table) → IsTable t → IsShown wholes packets t → AreWhole wholes packets
whole_shown wholes packets t is shown n = whole_by wholes n (slot_at packets n) (state_of t n) (shown n) (is n)
