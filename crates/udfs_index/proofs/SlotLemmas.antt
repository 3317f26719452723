-- What packets say after one of them has changed.
use Rattle.std.proofs.Common.{◌≡◌, ◌≢◌, ℕ, zero, suc, ◌-◌, ◌*◌, ◌/◌, ◌%◌, ◌^◌, ◌<◌, ◌≤◌, ◌+◌, ◌==◌, ◌||◌, Bool, true, false, cond, List, [], ◌∷◌, ◌++◌, length, Option, Some, slice_index_or, ◌⊎◌, inl, inr, bit_and, bit_or, w32, min, refl, sym, ap, ◌∙◌, arith}
use Rattle.std.specs.Int.{bit_at, bit_not}
use Rattle.std.specs.List.{slice_get}
use Rattle.std.proofs.Math.ListN.{set}
use Rattle.std.proofs.lemmas.Bool.{cases_lt, eqb-true, eqb-false}
use Rattle.std.proofs.lemmas.Bool.Decides.{nat_tests}
use Rattle.std.proofs.lemmas.List.{get_or-set_same, get_or-set_other, length-set}
use Rattle.std.proofs.lemmas.Nat.Bits.{bit_at-zero, bit_at-lt, bit_at_and, bit_at_not, bit_at_set_other, bit_at_set_same, bit_at_clear_other, bit_at_clear_same}
use Rattle.udfs_lattice.specs.declared.facts.Fact.TheVariants.{Unknown, Known, Conflict}
use Rattle.udfs_index.specs.declared.packet.Packet.{Packet}
use Rattle.udfs_index.specs.Slots.{Slot, slot_by, slot_in, is_placed, is_disputed, settled, slot_found, slot_at, IsSlotSet, AreSlotsForgotten, AreSlotsSet, AreSlotsSame, AreSlotsSettled}
use Rattle.udfs_lattice.specs.Tables.{is_named}

-- ---- one packet
-- block i is put to a place
pub put_slot : (k c : ℕ) (ps : List ℕ) (i place j : ℕ) (b : Bool) → (j == i) ≡ b → i < 32 → i < length ps
    → slot_by (bit_at (bit_or k (1 * 2 ^ i % 2 ^ 32)) j == 1) (bit_at c j == 1) (slice_index_or (set ps i place) j 0) ≡ cond b (Known place) (slot_by (bit_at k j == 1) (bit_at c j == 1) (slice_index_or ps j 0))
put_slot k c ps i place j true is small within =
    let same : j ≡ i = eqb-true j i is in
    let bit : bit_at (bit_or k (1 * 2 ^ i % 2 ^ 32)) j ≡ 1 = ap (bit_at (bit_or k (1 * 2 ^ i % 2 ^ 32))) same ∙ bit_at_set_same w32 k i small in
    ap (λ (x : ℕ). slot_by (x == 1) (bit_at c j == 1) (slice_index_or (set ps i place) j 0)) bit
    ∙ ap Known (ap (λ (x : ℕ). slice_index_or (set ps i place) x 0) same ∙ get_or-set_same ps i place 0 within)
put_slot k c ps i place j false is small within =
    let other : j ≢ i = eqb-false j i is in
    ap (λ (x : ℕ). slot_by (x == 1) (bit_at c j == 1) (slice_index_or (set ps i place) j 0)) (bit_at_set_other w32 k i small j other)
    ∙ ap (slot_by (bit_at k j == 1) (bit_at c j == 1)) (get_or-set_other ps i j place 0 other)

-- block i is put into conflict, and a place is kept for it
pub dispute_slot : (k c : ℕ) (ps : List ℕ) (i by j : ℕ) (b : Bool) → (j == i) ≡ b → i < 32 → j < 32
    → slot_by (bit_at (bit_and k (bit_not w32 (1 * 2 ^ i % 2 ^ 32))) j == 1) (bit_at (bit_or c (1 * 2 ^ i % 2 ^ 32)) j == 1) (slice_index_or (set ps i by) j 0) ≡ cond b Conflict (slot_by (bit_at k j == 1) (bit_at c j == 1) (slice_index_or ps j 0))
dispute_slot k c ps i by j true is small near =
    let same : j ≡ i = eqb-true j i is in
    let clear : bit_at (bit_and k (bit_not w32 (1 * 2 ^ i % 2 ^ 32))) j ≡ 0 = ap (bit_at (bit_and k (bit_not w32 (1 * 2 ^ i % 2 ^ 32)))) same ∙ bit_at_clear_same w32 k i small in
    let bit : bit_at (bit_or c (1 * 2 ^ i % 2 ^ 32)) j ≡ 1 = ap (bit_at (bit_or c (1 * 2 ^ i % 2 ^ 32))) same ∙ bit_at_set_same w32 c i small in
    ap (λ (x : ℕ). slot_by (x == 1) (bit_at (bit_or c (1 * 2 ^ i % 2 ^ 32)) j == 1) (slice_index_or (set ps i by) j 0)) clear
    ∙ ap (λ (x : ℕ). slot_by false (x == 1) (slice_index_or (set ps i by) j 0)) bit
dispute_slot k c ps i by j false is small near =
    let other : j ≢ i = eqb-false j i is in
    ap (λ (x : ℕ). slot_by (x == 1) (bit_at (bit_or c (1 * 2 ^ i % 2 ^ 32)) j == 1) (slice_index_or (set ps i by) j 0)) (bit_at_clear_other w32 k i small j near other)
    ∙ ap (λ (x : ℕ). slot_by (bit_at k j == 1) (x == 1) (slice_index_or (set ps i by) j 0)) (bit_at_set_other w32 c i small j other)
    ∙ ap (slot_by (bit_at k j == 1) (bit_at c j == 1)) (get_or-set_other ps i j by 0 other)

-- ---- several packets
-- of a new packet nothing is known
pub is_unknown : (ps : List ℕ) (i : ℕ) → slot_by (bit_at 0 i == 1) (bit_at 0 i == 1) (slice_index_or ps i 0) ≡ Unknown
is_unknown ps i = ap (λ (x : ℕ). slot_by (x == 1) (x == 1) (slice_index_or ps i 0)) (bit_at-zero i)

-- and it says nothing beside the others
got_more : (ps : List Packet) (p : Packet) (k i : ℕ) → slot_in p i ≡ Unknown → slot_found (slice_get (ps ++ p ∷ []) k) i ≡ slot_found (slice_get ps k) i
got_more [] p zero i h = h
got_more [] p (suc k) i h = refl
got_more (x ∷ ps) p zero i h = refl
got_more (x ∷ ps) p (suc k) i h = got_more ps p k i h

pub slots_more : (old ps : List Packet) (p : Packet) → ((i : ℕ) → slot_in p i ≡ Unknown) → AreSlotsSame old ps → AreSlotsSame old (ps ++ p ∷ [])
slots_more old ps p h same q = got_more ps p (q / 32) (q % 32) (h (q % 32)) ∙ same q

got_same : (ps : List Packet) (k : ℕ) (p : Packet) → k < length ps → slice_get (set ps k p) k ≡ Some p
got_same [] k p within = absurd (omega (arith, within))
got_same (x ∷ ps) zero p within = refl
got_same (x ∷ ps) (suc k) p within = got_same ps k p (omega (arith, within))

got_other : (ps : List Packet) (k j : ℕ) (p : Packet) → j ≢ k → slice_get (set ps k p) j ≡ slice_get ps j
got_other [] k j p other = refl
got_other (x ∷ ps) zero zero p other = absurd (other refl)
got_other (x ∷ ps) zero (suc j) p other = refl
got_other (x ∷ ps) (suc k) zero p other = refl
got_other (x ∷ ps) (suc k) (suc j) p other = got_other ps k j p (λ e. other (ap suc e))

same_place : (q n : ℕ) → q / 32 ≡ n / 32 → (q % 32 == n % 32) ≡ (q == n)
same_place q n e = grind (arith, nat_tests, e)

other_place : (q n : ℕ) → q / 32 ≢ n / 32 → (b : Bool) → (q == n) ≡ b → b ≡ false
other_place q n other true is = absurd (other (ap (λ (x : ℕ). x / 32) (eqb-true q n is)))
other_place q n other false is = refl

set_in : (ps : List Packet) (n : ℕ) (p new : Packet) (slot : Slot) → n / 32 < length ps → slice_get ps (n / 32) ≡ Some p → IsSlotSet p (n % 32) slot new → (q : ℕ) (b : Bool) → (q / 32 == n / 32) ≡ b
    → slot_at (set ps (n / 32) new) q ≡ cond (q == n) slot (slot_at ps q)
set_in ps n p new slot within was says q true is =
    let same : q / 32 ≡ n / 32 = eqb-true (q / 32) (n / 32) is in
    ap (λ (k : ℕ). slot_found (slice_get (set ps (n / 32) new) k) (q % 32)) same
    ∙ ap (λ (o : Option Packet). slot_found o (q % 32)) (got_same ps (n / 32) new within)
    ∙ says (q % 32) (omega arith)
    ∙ ap (λ (b : Bool). cond b slot (slot_in p (q % 32))) (same_place q n same)
    ∙ ap (λ (o : Option Packet). cond (q == n) slot (slot_found o (q % 32))) (sym was ∙ ap (slice_get ps) (sym same))
set_in ps n p new slot within was says q false is =
    let other : q / 32 ≢ n / 32 = eqb-false (q / 32) (n / 32) is in
    ap (λ (o : Option Packet). slot_found o (q % 32)) (got_other ps (n / 32) (q / 32) new other)
    ∙ ap (λ (b : Bool). cond b slot (slot_at ps q)) (sym (other_place q n other (q == n) refl))

-- the blocks behind n in its packet
pub ahead_in : (ps : List Packet) (p : Packet) (n j : ℕ) → slice_get ps (n / 32) ≡ Some p → n % 32 + j < 32 → slot_in p (n % 32 + j) ≡ Unknown → slot_at ps (n + j) ≡ Unknown
ahead_in ps p n j was near none =
    let packet : (n + j) / 32 ≡ n / 32 = omega (arith, near) in
    let place : (n + j) % 32 ≡ n % 32 + j = omega (arith, near) in
    ap (λ (k : ℕ). slot_found (slice_get ps k) ((n + j) % 32)) packet
    ∙ ap (λ (o : Option Packet). slot_found o ((n + j) % 32)) was
    ∙ ap (slot_in p) place
    ∙ none

-- the packet of block n has changed
pub slots_set : (old ps : List Packet) (n : ℕ) (p new : Packet) (slot : Slot) → AreSlotsSame old ps → n / 32 < length ps → slice_get ps (n / 32) ≡ Some p → IsSlotSet p (n % 32) slot new → AreSlotsSet old n slot (set ps (n / 32) new)
slots_set old ps n p new slot same within was says q = set_in ps n p new slot within was says q (q / 32 == n / 32) refl ∙ ap (cond (q == n) slot) (same q)

-- ---- the masks of a packet
-- the bit of a known block
pub known_bit : (k c : Bool) (place : ℕ) → k ≡ is_placed (slot_by k c place)
known_bit true c place = refl
known_bit false true place = refl
known_bit false false place = refl

disputed_by : (x y : ℕ) (place : ℕ) → x < 2 → y < 2 → (min y (1 - x) == 1) ≡ is_disputed (slot_by (x == 1) (y == 1) place)
disputed_by zero zero place h e = refl
disputed_by zero (suc zero) place h e = refl
disputed_by zero (suc (suc y)) place h e = absurd (omega (arith, e))
disputed_by (suc zero) zero place h e = refl
disputed_by (suc zero) (suc zero) place h e = refl
disputed_by (suc zero) (suc (suc y)) place h e = absurd (omega (arith, e))
disputed_by (suc (suc x)) y place h e = absurd (omega (arith, h))

-- the bit of a block in conflict
pub disputed_bit : (k c place i : ℕ) → k < 2 ^ 32 → i < 32 → (bit_at (bit_and c (bit_not w32 k)) i == 1) ≡ is_disputed (slot_by (bit_at k i == 1) (bit_at c i == 1) place)
disputed_bit k c place i fits small =
    ap (λ (x : ℕ). x == 1) (bit_at_and c (bit_not w32 k) i ∙ ap (min (bit_at c i)) (bit_at_not w32 k i fits small))
    ∙ disputed_by (bit_at k i) (bit_at c i) place (bit_at-lt k i) (bit_at-lt c i)

-- ---- what is forgotten
-- block i is forgotten
pub forget_slot : (k c : ℕ) (ps : List ℕ) (i j : ℕ) (b : Bool) → (j == i) ≡ b → i < 32 → j < 32
    → slot_by (bit_at (bit_and k (bit_not w32 (1 * 2 ^ i % 2 ^ 32))) j == 1) (bit_at (bit_and c (bit_not w32 (1 * 2 ^ i % 2 ^ 32))) j == 1) (slice_index_or ps j 0) ≡ cond b Unknown (slot_by (bit_at k j == 1) (bit_at c j == 1) (slice_index_or ps j 0))
forget_slot k c ps i j true is small near =
    let same : j ≡ i = eqb-true j i is in
    let clear : (x : ℕ) → bit_at (bit_and x (bit_not w32 (1 * 2 ^ i % 2 ^ 32))) j ≡ 0 = λ x. ap (bit_at (bit_and x (bit_not w32 (1 * 2 ^ i % 2 ^ 32)))) same ∙ bit_at_clear_same w32 x i small in
    ap (λ (x : ℕ). slot_by (x == 1) (bit_at (bit_and c (bit_not w32 (1 * 2 ^ i % 2 ^ 32))) j == 1) (slice_index_or ps j 0)) (clear k)
    ∙ ap (λ (x : ℕ). slot_by false (x == 1) (slice_index_or ps j 0)) (clear c)
forget_slot k c ps i j false is small near =
    let other : j ≢ i = eqb-false j i is in
    ap (λ (x : ℕ). slot_by (x == 1) (bit_at (bit_and c (bit_not w32 (1 * 2 ^ i % 2 ^ 32))) j == 1) (slice_index_or ps j 0)) (bit_at_clear_other w32 k i small j near other)
    ∙ ap (λ (x : ℕ). slot_by (bit_at k j == 1) (x == 1) (slice_index_or ps j 0)) (bit_at_clear_other w32 c i small j near other)

settled_by : (k c : Bool) (place : ℕ) → slot_by k false place ≡ settled (slot_by k c place)
settled_by true c place = refl
settled_by false true place = refl
settled_by false false place = refl

-- no block of a packet is in conflict
pub settle_slots : (k c : ℕ) (ps : List ℕ) (i : ℕ) → slot_by (bit_at k i == 1) (bit_at 0 i == 1) (slice_index_or ps i 0) ≡ settled (slot_by (bit_at k i == 1) (bit_at c i == 1) (slice_index_or ps i 0))
settle_slots k c ps i =
    ap (λ (x : ℕ). slot_by (bit_at k i == 1) (x == 1) (slice_index_or ps i 0)) (bit_at-zero i) ∙ settled_by (bit_at k i == 1) (bit_at c i == 1) (slice_index_or ps i 0)

none_there : (ps : List Packet) (k i : ℕ) → length ps ≤ k → slot_found (slice_get ps k) i ≡ Unknown
none_there [] zero i past = refl
none_there [] (suc k) i past = refl
none_there (x ∷ ps) zero i past = absurd (omega (arith, past))
none_there (x ∷ ps) (suc k) i past = none_there ps k i (omega (arith, past))

-- the blocks behind n, where its packet is not there
pub ahead_of : (ps : List Packet) (n j : ℕ) → length ps ≤ n / 32 → slot_at ps (n + j) ≡ Unknown
ahead_of ps n j past = none_there ps ((n + j) / 32) ((n + j) % 32) (omega (arith, past))

unsaid_by : (ps : List Packet) (n q : ℕ) (b : Bool) → (q == n) ≡ b → length ps ≤ n / 32 → slot_at ps q ≡ cond b Unknown (slot_at ps q)
unsaid_by ps n q true is past = ap (slot_at ps) (eqb-true q n is) ∙ none_there ps (n / 32) (n % 32) past
unsaid_by ps n q false is past = refl

-- a block of which there is no packet
pub slots_unsaid : (ps : List Packet) (n : ℕ) → length ps ≤ n / 32 → AreSlotsSet ps n Unknown ps
slots_unsaid ps n past q = unsaid_by ps n q (q == n) refl past

forgotten_by : (a b : Bool) (x y : Slot) → y ≡ cond a Unknown x → cond b Unknown y ≡ cond (a || b) Unknown x
forgotten_by true true x y is = refl
forgotten_by true false x y is = is
forgotten_by false true x y is = refl
forgotten_by false false x y is = is

-- the first of some blocks, and the others
pub forgotten_first : (old mid new : List Packet) (n : ℕ) (ns : List ℕ) → AreSlotsSet old n Unknown mid → AreSlotsForgotten mid ns new → AreSlotsForgotten old (n ∷ ns) new
forgotten_first old mid new n ns one rest q = rest q ∙ forgotten_by (q == n) (is_named ns q) (slot_at old q) (slot_at mid q) (one q)

-- the packets before this one have no block in conflict
pub record SettledBelow (old : List Packet) (number : ℕ) (new : List Packet) : Type 0 where
  pub size : length new ≡ length old
  pub below : (k i : ℕ) → k < number → slot_found (slice_get new k) i ≡ settled (slot_found (slice_get old k) i)
  pub others : (k : ℕ) → number ≤ k → slice_get new k ≡ slice_get old k

pub settled_none : (old : List Packet) → SettledBelow old 0 old
settled_none old = record { size = refl; below = λ k i lt. absurd (omega (arith, lt)); others = λ k le. refl }

settled_at : (old mid : List Packet) (number : ℕ) (p new : Packet) (k i : ℕ) (b : Bool) → (k == number) ≡ b → k < number + 1 → number < length mid → slice_get old number ≡ Some p → ((j : ℕ) → slot_in new j ≡ settled (slot_in p j))
    → (k < number → slot_found (slice_get mid k) i ≡ settled (slot_found (slice_get old k) i)) → slot_found (slice_get (set mid number new) k) i ≡ settled (slot_found (slice_get old k) i)
settled_at old mid number p new k i true is lt within was says below =
    let same : k ≡ number = eqb-true k number is in
    ap (λ (x : ℕ). slot_found (slice_get (set mid number new) x) i) same
    ∙ ap (λ (o : Option Packet). slot_found o i) (got_same mid number new within)
    ∙ says i
    ∙ sym (ap (λ (o : Option Packet). settled (slot_found o i)) (ap (slice_get old) same ∙ was))
settled_at old mid number p new k i false is lt within was says below =
    let other : k ≢ number = eqb-false k number is in
    ap (λ (o : Option Packet). slot_found o i) (got_other mid number k new other) ∙ below (omega (arith, lt, other))

-- and this one
pub settled_more : (old mid : List Packet) (number : ℕ) (p new : Packet) → number < length mid → slice_get mid number ≡ Some p → ((j : ℕ) → slot_in new j ≡ settled (slot_in p j)) → SettledBelow old number mid → SettledBelow old (number + 1) (set mid number new)
settled_more old mid number p new within was says h =
    record {
      size = length-set mid number new ∙ h.size;
      below = λ k i lt. settled_at old mid number p new k i (k == number) refl lt within (sym (h.others number (omega arith)) ∙ was) says (λ less. h.below k i less);
      others = λ k le. got_other mid number k new (λ e. omega (arith, e, le)) ∙ h.others k (omega (arith, le));
    }

settled_found : (old new : List Packet) (number q : ℕ) → (q / 32 < number) ⊎ (number ≤ q / 32) → length old ≤ number → SettledBelow old number new → slot_at new q ≡ settled (slot_at old q)
settled_found old new number q (inl low) end h = h.below (q / 32) (q % 32) low
settled_found old new number q (inr past) end h =
    ap (λ (o : Option Packet). slot_found o (q % 32)) (h.others (q / 32) past)
    ∙ none_there old (q / 32) (q % 32) (omega (arith, past, end))
    ∙ sym (ap settled (none_there old (q / 32) (q % 32) (omega (arith, past, end))))

-- where it was the last one, no packet has
pub settled_all : (old new : List Packet) (number : ℕ) → length old ≤ number → SettledBelow old number new → AreSlotsSettled old new
settled_all old new number end h q = settled_found old new number q (cases_lt (q / 32) number) end h
