-- A packet after its bytes of one block are stored or given up, and after a block is put into conflict.
use Rattle.std.specs.Prelude.{◌≡◌, ◌≢◌, ℕ, suc, ◌+◌, ◌*◌, ◌^◌, ◌%◌, ◌<◌, ◌≤◌, ◌==◌, Bool, true, false, cond, List, [], ◌∷◌, ◌++◌, length, Option, None, Some, slice_index_or, nat_lt, insert, take, drop, bit_or, bit_and, refl}
use Rattle.std.specs.List.{remove}
use Rattle.std.specs.Global.{Box}
use Rattle.std.specs.Int.{bit_at, bit_not}
use Rattle.std.proofs.Common.{sym, ap, subst, ◌∙◌, arith, ⊎_elim, w32}
use Rattle.std.proofs.lemmas.Bool.{eq-eqb, eqb-true, eqb-false, ltb-true, cases_lt}
use Rattle.std.proofs.lemmas.Grind.{get_or_default_zero}
use Rattle.std.proofs.lemmas.Nat.Bits.{bit_at_set_other, bit_at_set_same, bit_at_clear_other, bit_at_clear_same}
use Rattle.std.proofs.lemmas.List.{length-map, map-append, take-map, drop-map}
use Rattle.std.proofs.lemmas.List.Edits.{length-insert, length-remove, get_or-insert_below, get_or-insert_at, get_or-insert_above, get_or-remove_below, get_or-remove_above}
use Rattle.std.proofs.lemmas.List.Elements.{All-append, All-cons, All-take, All-drop}
use Rattle.udfs_lattice.specs.declared.facts.Fact.TheVariants.{Unknown, Known, Conflict}
use Rattle.udfs_lattice.specs.States.{State, IsBlock, is_known, join_of, join_of-comm}
use Rattle.udfs_lattice.specs.Tables.{Table, Held, fact_found, state_of, IsAdded}
use Rattle.udfs_lattice.specs.Packets.{rank, held_at, table_packet, box_values, IsPacket, IsSetTo}
use Rattle.udfs_lattice.proofs.PacketRanks.{HasAlso, rank_below, rank_same, rank_more, rank_up}
use Rattle.udfs_lattice.proofs.PacketStates.{state_of-packet, state_of-place, stored_below, is_known-bit, zero_bit, clear_bit, set_bit, bits_say, says_known, says_conflict, says_unknown}

-- ---- one place changes
either : (b : Bool) (x y : State) → (b ≡ true → x ≡ y) → cond b x Unknown ≡ cond b y Unknown
either true x y h = h refl
either false x y h = refl

abbrev SameAside : (k c : ℕ) → List (List ℕ) → (k' c' : ℕ) → List (List ℕ) → ℕ → Type 0
SameAside k c bs k' c' bs' b = (j : ℕ) → j < 32 → j ≢ b → held_at k' c' bs' j ≡ held_at k c bs j

set_to : (k c : ℕ) (bs : List (List ℕ)) (k' c' : ℕ) (bs' : List (List ℕ)) (b : ℕ) (s : State) → b < 32 → SameAside k c bs k' c' bs' b → fact_found (held_at k' c' bs' b) ≡ s → (q : ℕ) (e : Bool) → (q == b) ≡ e → state_of (table_packet k' c' bs') q ≡ cond e s (state_of (table_packet k c bs) q)
set_to k c bs k' c' bs' b s small aside at q true is = ap (state_of (table_packet k' c' bs')) (eqb-true q b is) ∙ state_of-place k' c' bs' b small ∙ at
set_to k c bs k' c' bs' b s small aside at q false is =
    state_of-packet k' c' bs' q
    ∙ either (nat_lt q 32) (fact_found (held_at k' c' bs' q)) (fact_found (held_at k c bs q)) (λ lt. ap fact_found (aside q (ltb-true q 32 lt) (eqb-false q b is)))
    ∙ sym (state_of-packet k c bs q)

-- the new fields are those of a packet, which is the table t with the state s at b
pub record Writes (k' c' : ℕ) (bs' : List (List ℕ)) (t : Table) (b : ℕ) (s : State) : Type 0 where
  pub packet : IsPacket k' c' bs'
  pub changed : IsSetTo t b s (table_packet k' c' bs')

written : (k c : ℕ) (bs : List (List ℕ)) (k' c' : ℕ) (bs' : List (List ℕ)) (t : Table) (b : ℕ) (s : State) → table_packet k c bs ≡ t → b < 32 → IsPacket k' c' bs' → SameAside k c bs k' c' bs' b → fact_found (held_at k' c' bs' b) ≡ s → Writes k' c' bs' t b s
written k c bs k' c' bs' t b s view small packet aside at = record {
  packet = packet;
  changed = subst (λ u. IsSetTo u b s (table_packet k' c' bs')) view (λ q. set_to k c bs k' c' bs' b s small aside at q (q == b) refl);
}

-- ---- what is held where the mask of known blocks changes
pick : (b : Bool) (v v' : List ℕ) (r : Option Held) → (b ≡ true → v' ≡ v) → cond b (Some (Some v')) r ≡ cond b (Some (Some v)) r
pick true v v' r h = ap (λ y. Some (Some y)) (h refl)
pick false v v' r h = refl

choose : (p p' : ℕ) (v v' : List ℕ) (r : Option Held) → p' ≡ p → ((p == 1) ≡ true → v' ≡ v) → cond (p' == 1) (Some (Some v')) r ≡ cond (p == 1) (Some (Some v)) r
choose p p' v v' r e h = ap (λ k. cond (k == 1) (Some (Some v')) r) e ∙ pick (p == 1) v v' r h

above : (i b : ℕ) → i ≢ b → b ≤ i → b < i
above i b ne ge = omega arith

-- ---- bytes stored
value_stored : (low up b : ℕ) (bs : List (List ℕ)) (x : List ℕ) (i : ℕ) → HasAlso low up b → b < 32 → rank low b ≤ length bs → i < 32 → i ≢ b → bit_at low i ≡ 1 → slice_index_or (insert bs (rank low b) x) (rank up i) [] ≡ slice_index_or bs (rank low i) []
value_stored low up b bs x i s small h near ne set = ⊎_elim
    (λ lt. ap (λ k. slice_index_or (insert bs (rank low b) x) k []) (rank_same low up b i s small (omega arith)) ∙ get_or-insert_below bs (rank low b) x [] (rank low i) (rank_below low i b lt set) h)
    (λ ge. ap (λ k. slice_index_or (insert bs (rank low b) x) k []) (rank_more low up b i s (above i b ne ge) (omega arith)) ∙ get_or-insert_above bs (rank low b) x [] (rank low i) (rank_up low b i ge) h)
    (cases_lt i b)

stored_at : (low up c b : ℕ) (bs : List (List ℕ)) (x : List ℕ) → HasAlso low up b → b < 32 → rank low b ≤ length bs → fact_found (held_at up c (insert bs (rank low b) x) b) ≡ Known x
stored_at low up c b bs x s small h =
    says_known (bit_at up b == 1) (bit_at c b == 1) (slice_index_or (insert bs (rank low b) x) (rank up b) []) (set_bit up b s.set)
    ∙ ap (λ r. Known (slice_index_or (insert bs (rank low b) x) r [])) (rank_same low up b b s small (omega arith))
    ∙ ap Known (get_or-insert_at bs (rank low b) x [] h)

apart_with : (low up c b : ℕ) → HasAlso low up b → ((i : ℕ) → i < 32 → bit_at low i ≡ 1 → bit_at c i ≡ 0) → bit_at c b ≡ 0 → (i : ℕ) → i < 32 → bit_at up i ≡ 1 → (e : Bool) → (i == b) ≡ e → bit_at c i ≡ 0
apart_with low up c b s h clear i near set true is = subst (λ k. bit_at c k ≡ 0) (sym (eqb-true i b is)) clear
apart_with low up c b s h clear i near set false is = h i near (sym (s.others i near (eqb-false i b is)) ∙ set)

IsPacket-stored : (low up c b : ℕ) (bs : List (List ℕ)) (x : List ℕ) → IsPacket low c bs → HasAlso low up b → b < 32 → bit_at c b ≡ 0 → IsBlock x → rank low b ≤ length bs → IsPacket up c (insert bs (rank low b) x)
IsPacket-stored low up c b bs x p s small clear sound fits = record {
  apart = λ i near set. apart_with low up c b s p.apart clear i near set (i == b) refl;
  stored = length-insert bs (rank low b) x fits ∙ ap (λ n. n + 1) p.stored ∙ sym (rank_more low up b 32 s small (omega arith));
  whole = All-append IsBlock (take (rank low b) bs) (x ∷ drop (rank low b) bs) (All-take IsBlock (rank low b) bs p.whole) (All-cons IsBlock x (drop (rank low b) bs) sound (All-drop IsBlock (rank low b) bs p.whole));
}

-- what `|= 1 << b` does
HasAlso-or : (k b : ℕ) → b < 32 → bit_at k b ≡ 0 → HasAlso k (bit_or k (1 * 2 ^ b % 2 ^ 32)) b
HasAlso-or k b small clear = record {
  others = λ j near ne. bit_at_set_other w32 k b small j ne;
  clear = clear;
  set = bit_at_set_same w32 k b small;
}

pub stored_fits : (k c b : ℕ) (bs : List (List ℕ)) → IsPacket k c bs → b < 32 → rank k b ≤ length bs
stored_fits k c b bs p small = subst (λ n. rank k b ≤ n) (sym p.stored) (rank_up k b 32 (omega arith))

-- the bits of an unknown block
clear_tests : (p q : Bool) (v : List ℕ) → bits_say p q v ≡ Unknown → (p ≡ false) × (q ≡ false)
clear_tests true q v h = cc
clear_tests false true v h = cc
clear_tests false false v h = (refl, refl)

unknown_clear : (k c : ℕ) (bs : List (List ℕ)) (t : Table) (b : ℕ) → table_packet k c bs ≡ t → b < 32 → state_of t b ≡ Unknown → (bit_at k b ≡ 0) × (bit_at c b ≡ 0)
unknown_clear k c bs t b view small h =
    let tests = clear_tests (bit_at k b == 1) (bit_at c b == 1) (slice_index_or bs (rank k b) []) (sym (state_of-place k c bs b small) ∙ ap (λ u. state_of u b) view ∙ h) in
    (zero_bit k b tests.0, zero_bit c b tests.1)

pub stores : (k c : ℕ) (bs bs' : List (List ℕ)) (t : Table) (b at : ℕ) (x : List ℕ) → IsPacket k c bs → table_packet k c bs ≡ t → b < 32 → state_of t b ≡ Unknown → IsBlock x → at ≡ rank k b → bs' ≡ insert bs at x → Writes (bit_or k (1 * 2 ^ b % 2 ^ 32)) c bs' t b (Known x)
stores k c bs bs' t b at x p view small unknown sound place is =
    let clear = unknown_clear k c bs t b view small unknown in
    let also = HasAlso-or k b small clear.0 in
    let fits = stored_fits k c b bs p small in
    subst (λ l. Writes (bit_or k (1 * 2 ^ b % 2 ^ 32)) c l t b (Known x)) (sym (is ∙ ap (λ r. insert bs r x) place))
    (written k c bs (bit_or k (1 * 2 ^ b % 2 ^ 32)) c (insert bs (rank k b) x) t b (Known x) view small
    (IsPacket-stored k (bit_or k (1 * 2 ^ b % 2 ^ 32)) c b bs x p also small clear.1 sound fits)
    (λ j near ne. choose (bit_at k j) (bit_at (bit_or k (1 * 2 ^ b % 2 ^ 32)) j) (slice_index_or bs (rank k j) []) (slice_index_or (insert bs (rank k b) x) (rank (bit_or k (1 * 2 ^ b % 2 ^ 32)) j) []) (cond (bit_at c j == 1) (Some None) None) (also.others j near ne)
    (λ set. value_stored k (bit_or k (1 * 2 ^ b % 2 ^ 32)) b bs x j also small fits near ne (eqb-true (bit_at k j) 1 set)))
    (stored_at k (bit_or k (1 * 2 ^ b % 2 ^ 32)) c b bs x also small fits))

-- ---- bytes given up
value_left : (low up b : ℕ) (bs : List (List ℕ)) (i : ℕ) → HasAlso low up b → b < 32 → rank up b < length bs → i < 32 → i ≢ b → bit_at up i ≡ 1 → slice_index_or (remove bs (rank up b)) (rank low i) [] ≡ slice_index_or bs (rank up i) []
value_left low up b bs i s small h near ne set = ⊎_elim
    (λ lt. ap (λ k. slice_index_or (remove bs (rank up b)) k []) (sym (rank_same low up b i s small (omega arith))) ∙ get_or-remove_below bs (rank up b) [] (rank up i) (rank_below up i b lt set) h)
    (λ ge. get_or-remove_above bs (rank up b) [] (rank low i) (subst (λ r. r ≤ rank low i) (sym (rank_same low up b b s small (omega arith))) (rank_up low b i ge)) h
    ∙ ap (λ k. slice_index_or bs k []) (sym (rank_more low up b i s (above i b ne ge) (omega arith))))
    (cases_lt i b)

apart_without : (low up c b : ℕ) → HasAlso low up b → ((i : ℕ) → i < 32 → bit_at up i ≡ 1 → bit_at c i ≡ 0) → (i : ℕ) → i < 32 → bit_at low i ≡ 1 → (e : Bool) → (i == b) ≡ e → bit_at c i ≡ 0
apart_without low up c b s h i near set true is = h i near (ap (bit_at up) (eqb-true i b is) ∙ s.set)
apart_without low up c b s h i near set false is = h i near (s.others i near (eqb-false i b is) ∙ set)

one_less : (a b n m : ℕ) → a + 1 ≡ n → n ≡ m → m ≡ b + 1 → a ≡ b
one_less a b n m e f g = omega arith

IsPacket-left : (low up c b : ℕ) (bs : List (List ℕ)) → IsPacket up c bs → HasAlso low up b → b < 32 → rank up b < length bs → IsPacket low c (remove bs (rank up b))
IsPacket-left low up c b bs p s small fits = record {
  apart = λ i near set. apart_without low up c b s p.apart i near set (i == b) refl;
  stored = one_less (length (remove bs (rank up b))) (rank low 32) (length bs) (rank up 32) (length-remove bs (rank up b) fits) p.stored (rank_more low up b 32 s small (omega arith));
  whole = All-append IsBlock (take (rank up b) bs) (drop (suc (rank up b)) bs) (All-take IsBlock (rank up b) bs p.whole) (All-drop IsBlock (suc (rank up b)) bs p.whole);
}

-- what `&= !(1 << b)` does
HasAlso-clear : (k b : ℕ) → b < 32 → bit_at k b ≡ 1 → HasAlso (bit_and k (bit_not w32 (1 * 2 ^ b % 2 ^ 32))) k b
HasAlso-clear k b small set = record {
  others = λ j near ne. sym (bit_at_clear_other w32 k b small j near ne);
  clear = bit_at_clear_same w32 k b small;
  set = set;
}

pub known_set : (k c : ℕ) (bs : List (List ℕ)) (t : Table) (b : ℕ) → table_packet k c bs ≡ t → b < 32 → is_known (state_of t b) ≡ true → (bit_at k b == 1) ≡ true
known_set k c bs t b view small known = is_known-bit k c bs t b view small ∙ known

pub gives_up : (k c : ℕ) (bs bs' : List (List ℕ)) (t : Table) (b at : ℕ) → IsPacket k c bs → table_packet k c bs ≡ t → b < 32 → is_known (state_of t b) ≡ true → at ≡ rank k b → bs' ≡ remove bs at → Writes (bit_and k (bit_not w32 (1 * 2 ^ b % 2 ^ 32))) c bs' t b Unknown
gives_up k c bs bs' t b at p view small known place is =
    let test = known_set k c bs t b view small known in
    let set = eqb-true (bit_at k b) 1 test in
    let also = HasAlso-clear k b small set in
    let fits = stored_below k c bs b p small test in
    subst (λ l. Writes (bit_and k (bit_not w32 (1 * 2 ^ b % 2 ^ 32))) c l t b Unknown) (sym (is ∙ ap (remove bs) place))
    (written k c bs (bit_and k (bit_not w32 (1 * 2 ^ b % 2 ^ 32))) c (remove bs (rank k b)) t b Unknown view small
    (IsPacket-left (bit_and k (bit_not w32 (1 * 2 ^ b % 2 ^ 32))) k c b bs p also small fits)
    (λ j near ne. choose (bit_at k j) (bit_at (bit_and k (bit_not w32 (1 * 2 ^ b % 2 ^ 32))) j) (slice_index_or bs (rank k j) []) (slice_index_or (remove bs (rank k b)) (rank (bit_and k (bit_not w32 (1 * 2 ^ b % 2 ^ 32))) j) []) (cond (bit_at c j == 1) (Some None) None) (sym (also.others j near ne))
    (λ on. value_left (bit_and k (bit_not w32 (1 * 2 ^ b % 2 ^ 32))) k b bs j also small fits near ne (eqb-true (bit_at k j) 1 on)))
    (says_unknown (bit_at (bit_and k (bit_not w32 (1 * 2 ^ b % 2 ^ 32))) b == 1) (bit_at c b == 1) (slice_index_or (remove bs (rank k b)) (rank (bit_and k (bit_not w32 (1 * 2 ^ b % 2 ^ 32))) b) []) (clear_bit (bit_and k (bit_not w32 (1 * 2 ^ b % 2 ^ 32))) b also.clear) (clear_bit c b (p.apart b small set))))

-- ---- a block put into conflict
zero_one : (x : ℕ) → x ≡ 0 → x ≡ 1 → ⊥
zero_one x e f = omega arith

IsPacket-marked : (k c c' b : ℕ) (bs : List (List ℕ)) → IsPacket k c bs → bit_at k b ≡ 0 → ((j : ℕ) → j ≢ b → bit_at c' j ≡ bit_at c j) → IsPacket k c' bs
IsPacket-marked k c c' b bs p clear others = record {
  apart = λ i near set. others i (λ is. absurd (zero_one (bit_at k i) (ap (bit_at k) is ∙ clear) set)) ∙ p.apart i near set;
  stored = p.stored;
  whole = p.whole;
}

pub marks : (k c : ℕ) (bs : List (List ℕ)) (t : Table) (b : ℕ) → IsPacket k c bs → table_packet k c bs ≡ t → b < 32 → is_known (state_of t b) ≡ false → Writes k (bit_or c (1 * 2 ^ b % 2 ^ 32)) bs t b Conflict
marks k c bs t b p view small not_known =
    let test = is_known-bit k c bs t b view small ∙ not_known in
    let clear = zero_bit k b test in
    written k c bs k (bit_or c (1 * 2 ^ b % 2 ^ 32)) bs t b Conflict view small
    (IsPacket-marked k c (bit_or c (1 * 2 ^ b % 2 ^ 32)) b bs p clear (λ j ne. bit_at_set_other w32 c b small j ne))
    (λ j near ne. ap (λ x. cond (bit_at k j == 1) (Some (Some (slice_index_or bs (rank k j) []))) (cond (x == 1) (Some None) None)) (bit_at_set_other w32 c b small j ne))
    (says_conflict (bit_at k b == 1) (bit_at (bit_or c (1 * 2 ^ b % 2 ^ 32)) b == 1) (slice_index_or bs (rank k b) []) test (set_bit (bit_or c (1 * 2 ^ b % 2 ^ 32)) b (bit_at_set_same w32 c b small)))

-- ---- a block taken out of conflict
pub unmarks : (k c : ℕ) (bs : List (List ℕ)) (t : Table) (b : ℕ) → IsPacket k c bs → table_packet k c bs ≡ t → b < 32 → is_known (state_of t b) ≡ false → Writes k (bit_and c (bit_not w32 (1 * 2 ^ b % 2 ^ 32))) bs t b Unknown
unmarks k c bs t b p view small not_known =
    let test = is_known-bit k c bs t b view small ∙ not_known in
    let clear = zero_bit k b test in
    let packet : IsPacket k (bit_and c (bit_not w32 (1 * 2 ^ b % 2 ^ 32))) bs = record {
      apart = λ i near set. bit_at_clear_other w32 c b small i near (λ is. absurd (zero_one (bit_at k i) (ap (bit_at k) is ∙ clear) set)) ∙ p.apart i near set;
      stored = p.stored;
      whole = p.whole;
    } in
    written k c bs k (bit_and c (bit_not w32 (1 * 2 ^ b % 2 ^ 32))) bs t b Unknown view small packet
    (λ j near ne. ap (λ x. cond (bit_at k j == 1) (Some (Some (slice_index_or bs (rank k j) []))) (cond (x == 1) (Some None) None)) (bit_at_clear_other w32 c b small j near ne))
    (says_unknown (bit_at k b == 1) (bit_at (bit_and c (bit_not w32 (1 * 2 ^ b % 2 ^ 32))) b == 1) (slice_index_or bs (rank k b) []) test (clear_bit (bit_and c (bit_not w32 (1 * 2 ^ b % 2 ^ 32))) b (bit_at_clear_same w32 c b small)))

-- ---- the boxes
box_values-insert : (boxes : List (Box (List ℕ))) (at : ℕ) (b : Box (List ℕ)) → box_values (insert boxes at b) ≡ insert (box_values boxes) at b.value
box_values-insert boxes at b =
    map-append (λ b. b.value) (take at boxes) (b ∷ drop at boxes)
    ∙ ap (λ l. l ++ b.value ∷ box_values (drop at boxes)) (sym (take-map (λ b. b.value) at boxes))
    ∙ ap (λ l. take at (box_values boxes) ++ b.value ∷ l) (sym (drop-map (λ b. b.value) at boxes))

box_values-remove : (boxes : List (Box (List ℕ))) (at : ℕ) → box_values (remove boxes at) ≡ remove (box_values boxes) at
box_values-remove boxes at =
    map-append (λ b. b.value) (take at boxes) (drop (suc at) boxes)
    ∙ ap (λ l. l ++ box_values (drop (suc at) boxes)) (sym (take-map (λ b. b.value) at boxes))
    ∙ ap (λ l. take at (box_values boxes) ++ l) (sym (drop-map (λ b. b.value) (suc at) boxes))

-- where a box goes fits
pub boxed_fits : (k c b : ℕ) (boxes : List (Box (List ℕ))) → IsPacket k c (box_values boxes) → b < 32 → rank k b ≤ length boxes
boxed_fits k c b boxes p small = subst (λ n. rank k b ≤ n) (length-map boxes (λ b. b.value)) (stored_fits k c b (box_values boxes) p small)

-- a box put in
pub boxes_stored : (boxes boxes' : List (Box (List ℕ))) (at : ℕ) (b : Box (List ℕ)) (x : List ℕ) → b.value ≡ x → boxes' ≡ insert boxes at b → box_values boxes' ≡ insert (box_values boxes) at x
boxes_stored boxes boxes' at b x same is = ap box_values is ∙ box_values-insert boxes at b ∙ ap (insert (box_values boxes) at) same

-- a box taken out
pub boxes_left : (boxes boxes' : List (Box (List ℕ))) (at : ℕ) → boxes' ≡ remove boxes at → box_values boxes' ≡ remove (box_values boxes) at
boxes_left boxes boxes' at is = ap box_values is ∙ box_values-remove boxes at

-- what the type of an array of 2048 bytes tells
pub IsBlock-from_array : (xs : List ℕ) → length xs ≡ 2048 → ((i : ℕ) → slice_index_or xs i 0 < 256) → IsBlock xs
IsBlock-from_array xs l h = record {
  whole = l;
  bytes = λ k d small. subst (λ x. x < 256) (sym (get_or_default_zero xs k d small)) (h k);
}

-- ---- set, and set again; and what was set as what was added
at_self : (i : ℕ) → (i == i) ≡ true
at_self i = eq-eqb i i refl

pub set_state : (t u : Table) (i : ℕ) (s : State) → IsSetTo t i s u → state_of u i ≡ s
set_state t u i s h = h i ∙ ap (λ b. cond b s (state_of t i)) (at_self i)

set_over : (e : Bool) (s r x : State) → cond e s (cond e r x) ≡ cond e s x
set_over true s r x = refl
set_over false s r x = refl

pub set_again : (t u v : Table) (i : ℕ) (r s : State) → IsSetTo t i r u → IsSetTo u i s v → IsSetTo t i s v
set_again t u v i r s h k q = k q ∙ ap (cond (q == i) s) (h q) ∙ set_over (q == i) s r (state_of t q)

pub added_from_set : (t u : Table) (i : ℕ) (s r : State) → IsSetTo t i r u → r ≡ join_of (state_of t i) s → IsAdded t i s u
added_from_set t u i s r h e q = h q ∙ ap (λ x. cond (q == i) x (state_of t q)) e

pub added_conflict : (t u : Table) (i : ℕ) → IsSetTo t i Conflict u → IsAdded t i Conflict u
added_conflict t u i h = added_from_set t u i Conflict Conflict h (join_of-comm Conflict (state_of t i))

added_none_at : (t : Table) (i : ℕ) (s : State) (q : ℕ) → join_of (state_of t i) s ≡ state_of t i → (e : Bool) → (q == i) ≡ e → state_of t q ≡ cond e (join_of (state_of t i) s) (state_of t q)
added_none_at t i s q h true is = ap (state_of t) (eqb-true q i is) ∙ sym h
added_none_at t i s q h false is = refl

-- a state that the block is above already
pub added_none : (t : Table) (i : ℕ) (s : State) → join_of (state_of t i) s ≡ state_of t i → IsAdded t i s t
added_none t i s h q = added_none_at t i s q h (q == i) refl
