-- The states of a packet, read off its masks and stored blocks.
use Rattle.std.specs.Prelude.{◌≡◌, ℕ, zero, suc, ◌^◌, ◌<◌, ◌≤◌, ◌==◌, Bool, true, false, cond, List, [], length, All, Option, None, Some, slice_index_or, nat_lt, refl}
use Rattle.std.specs.Int.{bit_at}
use Rattle.std.specs.Global.{Box}
use Rattle.std.specs.Str.{bytes_eq}
use Rattle.std.proofs.Common.{sym, ap, subst, ◌∙◌, arith, ⊎_elim}
use Rattle.std.proofs.lemmas.Nat.Bits.{bit_at-lt, bit_at-zero, bit_at_above}
use Rattle.std.proofs.lemmas.List.{length-map, get_or-map}
use Rattle.std.proofs.lemmas.List.Elements.{All-nil, All-get_or}
use Rattle.std.proofs.lemmas.Bool.{eqb-true, eqb-false, ltb-true, ltb-false, lt-ltb, cases_lt}
use Rattle.std.proofs.lemmas.Bool.Decides.{nat_tests}
use Rattle.udfs_lattice.specs.declared.facts.Fact.TheVariants.{Unknown, Known, Conflict}
use Rattle.udfs_lattice.specs.States.{State, IsBlock, is_known, is_conflict, join_of}
use Rattle.udfs_lattice.specs.Tables.{Table, Held, fact_found, state_of, empty_table, one_entry, join_tables, IsStateAt}
use Rattle.udfs_lattice.specs.TableLaws.{state_of-insert, state_of-empty, state_of-join_tables, state_of-one_entry, same_table}
use Rattle.udfs_lattice.specs.Packets.{rank, held_at, add_found, table_below, table_packet, box_values, IsPacket, IsPlaceState, IsPacketTable, IsMaskOf}
use Rattle.udfs_lattice.proofs.PacketRanks.{rank_below}

none_at : (t : Table) (n q : ℕ) → state_of t n ≡ Unknown → (b : Bool) → (q == n) ≡ b → state_of t q ≡ cond b Unknown (state_of t q)
none_at t n q h true is = ap (state_of t) (eqb-true q n is) ∙ h
none_at t n q h false is = refl

state_of-add_found : (t : Table) (n : ℕ) (o : Option Held) (q : ℕ) → state_of t n ≡ Unknown → state_of (add_found t n o) q ≡ cond (q == n) (fact_found o) (state_of t q)
unfolding add_found
state_of-add_found t n None q h = none_at t n q h (q == n) refl
state_of-add_found t n (Some x) q h = state_of-insert t n x q

lt_zero : (q : ℕ) → nat_lt q 0 ≡ false
lt_zero q = grind (arith, nat_tests)

pub lt_self : (q : ℕ) → nat_lt q q ≡ false
lt_self q = grind (arith, nat_tests)

apart_same : (q m : ℕ) → (q == m) ≡ true → nat_lt q (suc m) ≡ false → ⊥
apart_same q m is up = omega (arith, eqb-true q m is, ltb-false q (suc m) up)

apart_below : (q m : ℕ) → nat_lt q m ≡ true → nat_lt q (suc m) ≡ false → ⊥
apart_below q m low up = omega (arith, ltb-true q m low, ltb-false q (suc m) up)

apart_above : (q m : ℕ) → (q == m) ≡ false → nat_lt q m ≡ false → nat_lt q (suc m) ≡ true → ⊥
apart_above q m is low up = eqb-false q m is (omega (arith, ltb-false q m low, ltb-true q (suc m) up))

below_step : (f : ℕ → Option Held) (m q : ℕ) (b c d : Bool) → (q == m) ≡ b → nat_lt q m ≡ c → nat_lt q (suc m) ≡ d → cond b (fact_found (f m)) (cond c (fact_found (f q)) Unknown) ≡ cond d (fact_found (f q)) Unknown
below_step f m q true c true is low up = ap (λ k. fact_found (f k)) (sym (eqb-true q m is))
below_step f m q true c false is low up = absurd (apart_same q m is up)
below_step f m q false true true is low up = refl
below_step f m q false true false is low up = absurd (apart_below q m low up)
below_step f m q false false true is low up = absurd (apart_above q m is low up)
below_step f m q false false false is low up = refl

pub state_of-table_below : (f : ℕ → Option Held) (m q : ℕ) → state_of (table_below f m) q ≡ cond (nat_lt q m) (fact_found (f q)) Unknown
unfolding table_below
state_of-table_below f zero q = state_of-empty q ∙ ap (λ b. cond b (fact_found (f q)) Unknown) (sym (lt_zero q))
state_of-table_below f (suc m) q =
    state_of-add_found (table_below f m) m (f m) q (state_of-table_below f m m ∙ ap (λ b. cond b (fact_found (f m)) Unknown) (lt_self m))
    ∙ ap (λ s. cond (q == m) (fact_found (f m)) s) (state_of-table_below f m q)
    ∙ below_step f m q (q == m) (nat_lt q m) (nat_lt q (suc m)) refl refl refl

pub state_of-packet : (k c : ℕ) (bs : List (List ℕ)) (i : ℕ) → state_of (table_packet k c bs) i ≡ cond (nat_lt i 32) (fact_found (held_at k c bs i)) Unknown
unfolding table_packet
state_of-packet k c bs i = state_of-table_below (held_at k c bs) 32 i

pub state_of-place : (k c : ℕ) (bs : List (List ℕ)) (i : ℕ) → i < 32 → state_of (table_packet k c bs) i ≡ fact_found (held_at k c bs i)
state_of-place k c bs i h = state_of-packet k c bs i ∙ ap (λ b. cond b (fact_found (held_at k c bs i)) Unknown) (lt-ltb i 32 h)

not_below : (i : ℕ) → 32 ≤ i → nat_lt i 32 ≡ false
not_below i h = grind (arith, nat_tests)

pub state_of-beyond : (k c : ℕ) (bs : List (List ℕ)) (i : ℕ) → 32 ≤ i → state_of (table_packet k c bs) i ≡ Unknown
state_of-beyond k c bs i h = state_of-packet k c bs i ∙ ap (λ b. cond b (fact_found (held_at k c bs i)) Unknown) (not_below i h)

-- ---- the state at a place, by the two bits there
abbrev pub bits_say : Bool → Bool → List ℕ → State
bits_say known conflict v = fact_found (cond known (Some (Some v)) (cond conflict (Some None) None))

pub says_known : (p q : Bool) (v : List ℕ) → p ≡ true → bits_say p q v ≡ Known v
says_known p q v e = ap (λ b. bits_say b q v) e

pub says_conflict : (p q : Bool) (v : List ℕ) → p ≡ false → q ≡ true → bits_say p q v ≡ Conflict
says_conflict p q v e f = ap (λ b. bits_say b q v) e ∙ ap (λ b. bits_say false b v) f

pub says_unknown : (p q : Bool) (v : List ℕ) → p ≡ false → q ≡ false → bits_say p q v ≡ Unknown
says_unknown p q v e f = ap (λ b. bits_say b q v) e ∙ ap (λ b. bits_say false b v) f

pub known_said : (p q : Bool) (v : List ℕ) → is_known (bits_say p q v) ≡ p
known_said true q v = refl
known_said false true v = refl
known_said false false v = refl

pub conflict_said : (p q : Bool) (v : List ℕ) → (p ≡ true → q ≡ false) → is_conflict (bits_say p q v) ≡ q
conflict_said true q v h = sym (h refl)
conflict_said false true v h = refl
conflict_said false false v h = refl

pub state_known : (k c : ℕ) (bs : List (List ℕ)) (t : Table) (i : ℕ) (bytes : List ℕ) → table_packet k c bs ≡ t → i < 32 → (bit_at k i == 1) ≡ true → slice_index_or bs (rank k i) [] ≡ bytes → Known bytes ≡ state_of t i
state_known k c bs t i bytes view h set e =
    ap Known (sym e)
    ∙ sym (says_known (bit_at k i == 1) (bit_at c i == 1) (slice_index_or bs (rank k i) []) set)
    ∙ sym (state_of-place k c bs i h) ∙ ap (λ u. state_of u i) view

pub state_conflict : (k c : ℕ) (bs : List (List ℕ)) (t : Table) (i : ℕ) → table_packet k c bs ≡ t → i < 32 → (bit_at k i == 1) ≡ false → (bit_at c i == 1) ≡ true → Conflict ≡ state_of t i
state_conflict k c bs t i view h clear set =
    sym (says_conflict (bit_at k i == 1) (bit_at c i == 1) (slice_index_or bs (rank k i) []) clear set)
    ∙ sym (state_of-place k c bs i h) ∙ ap (λ u. state_of u i) view

pub state_unknown : (k c : ℕ) (bs : List (List ℕ)) (t : Table) (i : ℕ) → table_packet k c bs ≡ t → i < 32 → (bit_at k i == 1) ≡ false → (bit_at c i == 1) ≡ false → Unknown ≡ state_of t i
state_unknown k c bs t i view h clear none =
    sym (says_unknown (bit_at k i == 1) (bit_at c i == 1) (slice_index_or bs (rank k i) []) clear none)
    ∙ sym (state_of-place k c bs i h) ∙ ap (λ u. state_of u i) view

-- whether a place is known is its bit of the one mask
pub is_known-bit : (k c : ℕ) (bs : List (List ℕ)) (t : Table) (i : ℕ) → table_packet k c bs ≡ t → i < 32 → (bit_at k i == 1) ≡ is_known (state_of t i)
is_known-bit k c bs t i view h =
    sym (known_said (bit_at k i == 1) (bit_at c i == 1) (slice_index_or bs (rank k i) []))
    ∙ ap is_known (sym (state_of-place k c bs i h)) ∙ ap (λ u. is_known (state_of u i)) view

zero_from : (x : ℕ) → x < 2 → (x ≡ 1 → ⊥) → x ≡ 0
zero_from x h ne = omega arith

pub zero_bit : (n i : ℕ) → (bit_at n i == 1) ≡ false → bit_at n i ≡ 0
zero_bit n i h = zero_from (bit_at n i) (bit_at-lt n i) (eqb-false (bit_at n i) 1 h)

pub clear_bit : (n i : ℕ) → bit_at n i ≡ 0 → (bit_at n i == 1) ≡ false
clear_bit n i h = ap (λ x. x == 1) h

pub set_bit : (n i : ℕ) → bit_at n i ≡ 1 → (bit_at n i == 1) ≡ true
set_bit n i h = ap (λ x. x == 1) h

pub is_conflict-bit : (k c : ℕ) (bs : List (List ℕ)) (t : Table) (i : ℕ) → IsPacket k c bs → table_packet k c bs ≡ t → i < 32 → (bit_at c i == 1) ≡ is_conflict (state_of t i)
is_conflict-bit k c bs t i p view h =
    sym (conflict_said (bit_at k i == 1) (bit_at c i == 1) (slice_index_or bs (rank k i) []) (λ e. clear_bit c i (p.apart i h (eqb-true (bit_at k i) 1 e))))
    ∙ ap is_conflict (sym (state_of-place k c bs i h)) ∙ ap (λ u. is_conflict (state_of u i)) view

mask_beyond : (m : ℕ) (i : ℕ) → m < 2 ^ 32 → 32 ≤ i → (bit_at m i == 1) ≡ false
mask_beyond m i fits h = clear_bit m i (bit_at_above m 32 i fits h)

pub IsMaskOf-known : (k c : ℕ) (bs : List (List ℕ)) (t : Table) → k < 2 ^ 32 → table_packet k c bs ≡ t → IsMaskOf is_known t k
IsMaskOf-known k c bs t fits view i = ⊎_elim
    (λ lt. is_known-bit k c bs t i view lt)
    (λ ge. mask_beyond k i fits ge ∙ ap is_known (sym (state_of-beyond k c bs i ge)) ∙ ap (λ u. is_known (state_of u i)) view)
    (cases_lt i 32)

pub IsMaskOf-conflict : (k c : ℕ) (bs : List (List ℕ)) (t : Table) → c < 2 ^ 32 → IsPacket k c bs → table_packet k c bs ≡ t → IsMaskOf is_conflict t c
IsMaskOf-conflict k c bs t fits p view i = ⊎_elim
    (λ lt. is_conflict-bit k c bs t i p view lt)
    (λ ge. mask_beyond c i fits ge ∙ ap is_conflict (sym (state_of-beyond k c bs i ge)) ∙ ap (λ u. is_conflict (state_of u i)) view)
    (cases_lt i 32)

-- ---- the packets that there are
place_said : (i : ℕ) (p q : Bool) (v : List ℕ) → i < 32 → (p ≡ true → IsBlock v) → IsPlaceState i (bits_say p q v)
place_said i true q v h whole = (h, whole refl)
place_said i false true v h whole = h
place_said i false false v h whole = tt

-- where the bytes of a known bit lie
pub stored_below : (k c : ℕ) (bs : List (List ℕ)) (i : ℕ) → IsPacket k c bs → i < 32 → (bit_at k i == 1) ≡ true → rank k i < length bs
stored_below k c bs i p h set = subst (λ n. rank k i < n) (sym p.stored) (rank_below k i 32 h (eqb-true (bit_at k i) 1 set))

pub IsPacketTable-packet : (k c : ℕ) (bs : List (List ℕ)) (t : Table) → IsPacket k c bs → table_packet k c bs ≡ t → IsPacketTable t
IsPacketTable-packet k c bs t p view i = subst (λ u. IsPlaceState i (state_of u i)) view (⊎_elim
    (λ lt. subst (IsPlaceState i) (sym (state_of-place k c bs i lt))
    (place_said i (bit_at k i == 1) (bit_at c i == 1) (slice_index_or bs (rank k i) []) lt (λ e. All-get_or IsBlock bs (rank k i) [] (stored_below k c bs i p lt e) p.whole)))
    (λ ge. subst (IsPlaceState i) (sym (state_of-beyond k c bs i ge)) tt)
    (cases_lt i 32))

-- ---- the packet with no bit set
rank-zero : (i : ℕ) → rank 0 i ≡ 0
unfolding rank
rank-zero zero = refl
rank-zero (suc i) = let rest : rank 0 i ≡ 0 = rank-zero i in let none : bit_at 0 i ≡ 0 = bit_at-zero i in omega arith

pub IsPacket-none : (bs : List (List ℕ)) → bs ≡ [] → IsPacket 0 0 bs
IsPacket-none bs e = record {
  apart = λ i h set. bit_at-zero i;
  stored = ap length e ∙ sym (rank-zero 32);
  whole = subst (All IsBlock) (sym e) (All-nil IsBlock);
}

either_one : (b : Bool) (s : State) → cond b s s ≡ s
either_one true s = refl
either_one false s = refl

pub packet-none : (bs : List (List ℕ)) → table_packet 0 0 bs ≡ empty_table
packet-none bs = same_table (table_packet 0 0 bs) empty_table (λ i.
    state_of-packet 0 0 bs i
    ∙ ap (λ s. cond (nat_lt i 32) s Unknown) (says_unknown (bit_at 0 i == 1) (bit_at 0 i == 1) (slice_index_or bs (rank 0 i) []) (clear_bit 0 i (bit_at-zero i)) (clear_bit 0 i (bit_at-zero i)))
    ∙ either_one (nat_lt i 32) Unknown
    ∙ sym (state_of-empty i))

-- where the box of a known bit lies
pub boxed_below : (k c : ℕ) (boxes : List (Box (List ℕ))) (i : ℕ) → IsPacket k c (box_values boxes) → i < 32 → (bit_at k i == 1) ≡ true → rank k i < length boxes
boxed_below k c boxes i p h set = subst (λ n. rank k i < n) (length-map boxes (λ b. b.value)) (stored_below k c (box_values boxes) i p h set)

-- what an index into the boxes reads
pub stored_read : (boxes : List (Box (List ℕ))) (i r : ℕ) (x : Box (List ℕ)) → i ≡ r → r < length boxes → x ≡ slice_index_or boxes i x → slice_index_or (box_values boxes) r [] ≡ x.value
stored_read boxes i r x e h is = get_or-map (λ b. b.value) boxes r x [] h ∙ ap (λ k. (slice_index_or boxes k x).value) (sym e) ∙ sym (ap (λ b. b.value) is)

-- ---- what makes a packet that there is
pub IsPlace-join_of : (i : ℕ) (x y : State) → IsPlaceState i x → IsPlaceState i y → IsPlaceState i (join_of x y)
IsPlace-join_of i Unknown y p q = q
IsPlace-join_of i (Known a) Unknown p q = p
IsPlace-join_of i (Known a) (Known b) p q = elim (bytes_eq a b) as (λ r. IsPlaceState i (cond r (Known a) Conflict)) [ true ↦ p | false ↦ p.0 ]
IsPlace-join_of i (Known a) Conflict p q = q
IsPlace-join_of i Conflict y p q = p

pub IsPacketTable-join : (t u : Table) → IsPacketTable t → IsPacketTable u → IsPacketTable (join_tables t u)
IsPacketTable-join t u p q i = subst (IsPlaceState i) (sym (state_of-join_tables t u i)) (IsPlace-join_of i (state_of t i) (state_of u i) (p i) (q i))

pub IsPacketTable-empty : IsPacketTable empty_table
IsPacketTable-empty i = subst (IsPlaceState i) (sym (state_of-empty i)) tt

-- a block's state at its place
at_place : (n i : ℕ) (s : State) → i < 32 → IsStateAt n s → IsPlaceState i s
at_place n i Unknown small h = tt
at_place n i (Known bytes) small h = (small, h.1)
at_place n i Conflict small h = small

one_place : (i : ℕ) (s : State) (q : ℕ) (b : Bool) → IsPlaceState i s → (q == i) ≡ b → IsPlaceState q (cond b s Unknown)
one_place i s q true h is = subst (λ k. IsPlaceState k s) (sym (eqb-true q i is)) h
one_place i s q false h is = tt

pub IsPacketTable-one : (n i : ℕ) (s : State) → i < 32 → IsStateAt n s → IsPacketTable (one_entry i s)
IsPacketTable-one n i s small h q = subst (IsPlaceState q) (sym (state_of-one_entry i s q)) (one_place i s q (q == i) (at_place n i s small h) refl)

-- one block of a packet
pub IsPacketTable-place : (t : Table) (i : ℕ) → IsPacketTable t → IsPacketTable (one_entry i (state_of t i))
IsPacketTable-place t i h q = subst (IsPlaceState q) (sym (state_of-one_entry i (state_of t i) q)) (one_place i (state_of t i) q (q == i) (h i) refl)
