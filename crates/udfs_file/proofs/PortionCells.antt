-- The cells of portions.
use Rattle.std.proofs.Common.{◌≡◌, refl, sym, ◌∙◌, ap, subst, ℕ, ◌+◌, ◌-◌, ◌*◌, ◌/◌, ◌%◌, ◌<◌, ◌≤◌, min, List, [], ◌∷◌, ◌++◌, length, take, drop, map, arith, Option, Some, None, replicate}
use Rattle.std.specs.Prelude.{zero, suc}
use Rattle.std.specs.List.{range_with_len}
use Rattle.std.proofs.lemmas.List.{append-nil, length-drop, length-take-le}
use Rattle.udfs_lattice.specs.States.{State}
use Rattle.udfs_lattice.specs.declared.facts.Fact.TheVariants.{Unknown, Known, Conflict}
use Rattle.udfs_space.specs.Places.{View, block_at}
use Rattle.udfs_file.specs.Bodies.{cell_in, cell_at, recorded_cell}
use Rattle.udfs_file.specs.Portions.{AreUnread, IsFirst, IsPortion, IsUnreadState, IsUnreadAt, portion_count}
use Rattle.udfs_file.specs.Stretches.{cells_of, stretch_cells, stretch_count}
use Rattle.udfs_file.specs.declared.portions.Portion.{Portion}
use Rattle.udfs_file.specs.declared.stretches.Run.{Run}
use Rattle.udfs_file.specs.declared.stretches.Stretch.{Stretch}
use Rattle.udfs_file.specs.declared.stretches.Stretch.TheVariants.{Recorded, Zeros, Missing}
use Rattle.udfs_file.proofs.CellLemmas.{front_part, left_in}
use Rattle.udfs_file.proofs.PieceCells.{none_cells, part_range, part_same, zero_bytes}
use Rattle.udfs_file.specs.declared.cells.Cell.{Cell}
use Rattle.udfs_file.specs.declared.cells.Cell.TheVariants.{Byte, Gap}

pub same_block : (q p : ℕ) → 2048 * q ≤ p → p < 2048 * q + 2048 → p / 2048 ≡ q
same_block q p h k = omega arith

gap_in : (b i m n : ℕ) (s : State) → m ≡ n → IsUnreadState s → cell_in b m i s ≡ Gap n
gap_in b i m n Unknown e u = ap Gap e
gap_in b i m n (Known bytes) e u = absurd u
gap_in b i m n Conflict e u = ap Gap e

gap_at : (b i n : ℕ) (o : Option (ℕ × State)) → IsUnreadAt o n → cell_at b i o ≡ Gap n
gap_at b i n None u = absurd u
gap_at b i n (Some block) u = gap_in b i block.0 n block.1 u.0 u.1

-- the cells of a block that is not known
unread_block : (v : View) (r b q p k n : ℕ) → 2048 * q ≤ p → p + k ≤ 2048 * q + 2048 → IsUnreadAt (block_at v r (b + q)) n
    → map (recorded_cell v r b) (range_with_len p k) ≡ replicate k (Gap n)
unread_block v r b q p zero n h m u = refl
unread_block v r b q p (suc k) n h m u = λ i. first i ∷ unread_block v r b q (p + 1) k n (omega (arith, h)) (omega (arith, m)) u i
  where
    first : recorded_cell v r b p ≡ Gap n
    first = ap (λ z. cell_at (b + z) (p % 2048) (block_at v r (b + z))) (same_block q p h (omega (arith, m))) ∙ gap_at (b + q) (p % 2048) n (block_at v r (b + q)) u

pub split : {A : Type 0} (f : ℕ → A) (a m n : ℕ) → map f (range_with_len a (m + n)) ≡ map f (range_with_len a m) ++ map f (range_with_len (a + m) n)
split f a zero n = (λ i. map f (range_with_len (p i) (q i)))
  where
    p : a ≡ a + 0
    p = omega arith

    q : 0 + n ≡ n
    q = omega arith
split f a (suc m) n = ap (λ k. map f (range_with_len a k)) (let e : suc m + n ≡ suc (m + n) = omega arith in e)
    ∙ ap (λ l. f a ∷ l) (split f (a + 1) m n ∙ ap (λ z. map f (range_with_len (a + 1) m) ++ map f (range_with_len z n)) (let e : a + 1 + m ≡ a + suc m = omega arith in e))

-- blocks one behind the other: the first cell lies in block q behind b, the last one in the last of them
unread_from : (v : View) (r b q p count n k : ℕ) → 1 ≤ count → 2048 * q ≤ p → p < 2048 * q + 2048 → 2048 * (q + k) < p + count → p + count ≤ 2048 * (q + k) + 2048
    → ((j : ℕ) → j < suc k → IsUnreadAt (block_at v r (b + q + j)) (n + j))
    → AreUnread n (suc k) (map (recorded_cell v r b) (range_with_len p count))
unread_from v r b q p count n zero s h l m e u = (
  count - 1,
  [],
  unread_block v r b q p count n h (omega (arith, e)) first ∙ ap (λ z. replicate z (Gap n)) (let z : count ≡ suc (count - 1) = omega (arith, s) in z) ∙ sym (append-nil (replicate (suc (count - 1)) (Gap n))),
  refl,
)
  where
    first : IsUnreadAt (block_at v r (b + q)) n
    first = subst (λ z. IsUnreadAt (block_at v r z) n) (let z : b + q + 0 ≡ b + q = omega arith in z) (subst (λ z. IsUnreadAt (block_at v r (b + q + 0)) z) (let z : n + 0 ≡ n = omega arith in z) (u 0 (omega arith)))
unread_from v r b q p count n (suc k) s h l m e u = (
  here - 1,
  map (recorded_cell v r b) (range_with_len (p + here) (count - here)),
  ap (λ z. map (recorded_cell v r b) (range_with_len p z)) (let z : count ≡ here + (count - here) = omega (arith, l, m) in z)
      ∙ split (recorded_cell v r b) p here (count - here)
      ∙ ap (λ z. z ++ map (recorded_cell v r b) (range_with_len (p + here) (count - here)))
      (unread_block v r b q p here n h (omega (arith, l)) first ∙ ap (λ z. replicate z (Gap n)) (let z : here ≡ suc (here - 1) = omega (arith, l) in z)),
  unread_from v r b (q + 1) (p + here) (count - here) (n + 1) k (omega (arith, l, m)) (omega (arith, l)) (omega (arith, l)) (omega (arith, l, m)) (omega (arith, l, m, e))
      (λ j d. subst (λ z. IsUnreadAt (block_at v r z) (n + 1 + j)) (let z : b + q + suc j ≡ b + (q + 1) + j = omega arith in z)
      (subst (λ z. IsUnreadAt (block_at v r (b + q + suc j)) z) (let z : n + suc j ≡ n + 1 + j = omega arith in z) (u (suc j) (omega (arith, d))))),
)
  where
    here : ℕ
    here = 2048 * q + 2048 - p

    first : IsUnreadAt (block_at v r (b + q)) n
    first = subst (λ z. IsUnreadAt (block_at v r z) n) (let z : b + q + 0 ≡ b + q = omega arith in z) (subst (λ z. IsUnreadAt (block_at v r (b + q + 0)) z) (let z : n + 0 ≡ n = omega arith in z) (u 0 (omega arith)))

pub unread_cells : (v : View) (r b at left n behind : ℕ) → 1 ≤ left → behind ≤ (at % 2048 + left - 1) / 2048 → IsUnreadAt (block_at v r (b + at / 2048)) n
    → ((j : ℕ) → j < behind → IsUnreadAt (block_at v r (b + at / 2048 + 1 + j)) (n + 1 + j))
    → AreUnread n (behind + 1) (map (recorded_cell v r b) (range_with_len at (min left (2048 * (behind + 1) - at % 2048))))
unread_cells v r b at left n behind s h u us = subst (λ k. AreUnread n k (map (recorded_cell v r b) (range_with_len at (min left (2048 * (behind + 1) - at % 2048))))) (let z : suc behind ≡ behind + 1 = omega arith in z)
    (unread_from v r b (at / 2048) at (min left (2048 * (behind + 1) - at % 2048)) n behind (omega (arith, s, h)) (omega arith) (omega arith) (omega (arith, s, h)) (omega (arith, h)) each)
  where
    each : (j : ℕ) → j < suc behind → IsUnreadAt (block_at v r (b + at / 2048 + j)) (n + j)
    each zero d = subst (λ z. IsUnreadAt (block_at v r z) (n + 0)) (let z : b + at / 2048 ≡ b + at / 2048 + 0 = omega arith in z) (subst (λ z. IsUnreadAt (block_at v r (b + at / 2048)) z) (let z : n ≡ n + 0 = omega arith in z) u)
    each (suc j) d = subst (λ z. IsUnreadAt (block_at v r z) (n + suc j)) (let z : b + at / 2048 + 1 + j ≡ b + at / 2048 + suc j = omega arith in z)
        (subst (λ z. IsUnreadAt (block_at v r (b + at / 2048 + 1 + j)) z) (let z : n + 1 + j ≡ n + suc j = omega arith in z) (us j (omega (arith, d))))

-- ---- a part of one stretch
pub no_place : (v : View) (r b at k : ℕ) → at % 2048 + k ≤ 2048 → block_at v r (b + at / 2048) ≡ None → map (recorded_cell v r b) (range_with_len at k) ≡ replicate k (Byte 0 None)
no_place v r b at k h e = none_cells v r b at k h e ∙ zero_bytes k

pub length-part : (bytes : List ℕ) (at k : ℕ) → length bytes ≡ 2048 → at + k ≤ 2048 → length (take k (drop at bytes)) ≡ k
length-part bytes at k l h = length-take-le k (drop at bytes) (let q : length (drop at bytes) ≡ length bytes - at = length-drop at bytes in omega (arith, q, l, h))

pub recorded_take : (v : View) (s : Stretch) (run : Run) (n p at k : ℕ) → s ≡ Recorded run n → at ≡ run.offset + p → p + k ≤ n
    → map (recorded_cell v run.address.reference run.address.block) (range_with_len at k) ≡ take k (drop p (stretch_cells v s))
recorded_take v s run n p at k e a h = (λ i. map (recorded_cell v run.address.reference run.address.block) (range_with_len (a i) k))
    ∙ sym (part_range (recorded_cell v run.address.reference run.address.block) run.offset n p k h)
    ∙ ap (λ z. take k (drop p (stretch_cells v z))) (sym e)

pub zeros_take : (v : View) (s : Stretch) (n p k : ℕ) → s ≡ Zeros n → p + k ≤ n → take k (drop p (stretch_cells v s)) ≡ replicate k (Byte 0 None)
zeros_take v s n p k e h = ap (λ z. take k (drop p (stretch_cells v z))) e ∙ part_same (Byte 0 None) n p k h

pub missing_take : (v : View) (s : Stretch) (m n p k : ℕ) → s ≡ Missing m n → 1 ≤ k → p + k ≤ n → AreUnread m (m + 1 - m) (take k (drop p (stretch_cells v s)))
missing_take v s m n p k e o h = subst (λ z. AreUnread m z (take k (drop p (stretch_cells v s)))) (let z : 1 ≡ m + 1 - m = omega arith in z) (
  k - 1,
  [],
  ap (λ z. take k (drop p (stretch_cells v z))) e ∙ part_same (Gap m) n p k h
      ∙ ap (λ z. replicate z (Gap m)) (let z : k ≡ suc (k - 1) = omega (arith, o) in z) ∙ sym (append-nil (replicate (suc (k - 1)) (Gap m))),
  refl,
)

-- ---- the first portion of what is left
pub first_portion : (v : View) (all : List Stretch) (s : Stretch) (ss : List Stretch) (p k : ℕ) (r : Portion) (whole t : List Cell) → all ≡ s ∷ ss → p < stretch_count s
    → k ≡ portion_count r → IsPortion r (take (portion_count r) (drop p (stretch_cells v s))) → 1 ≤ portion_count r → p + portion_count r ≤ stretch_count s
    → drop p (cells_of v all) ≡ whole → t ≡ drop k (drop p (cells_of v all)) → IsFirst r whole t
first_portion v all s ss p k r whole t e h d i o m w b = record {
  some = o;
  there = subst (λ z. portion_count r ≤ length z) w (let q : length (drop p (cells_of v all)) ≡ stretch_count s - p + length (cells_of v ss) = left_in v all s ss p e h in omega (arith, q, m));
  portion = subst (IsPortion r) (sym (front_part v s ss all p (portion_count r) e m) ∙ ap (take (portion_count r)) w) i;
  rest = b ∙ ap (λ z. drop z (drop p (cells_of v all))) d ∙ ap (drop (portion_count r)) w;
}

pub none_left : (v : View) (all : List Stretch) (p : ℕ) (whole : List Cell) → length all ≡ 0 → drop p (cells_of v all) ≡ whole → whole ≡ []
unfolding cells_of
none_left v [] p whole e w = sym w ∙ nothing p
  where
    nothing : (n : ℕ) → drop {A = Cell} n [] ≡ []
    nothing zero = refl
    nothing (suc n) = refl
none_left v (s ∷ ss) p whole e w = absurd (let z : ⊥ = omega (arith, e) in z)

pub shorter : (r : Portion) (s t : List Cell) → IsFirst r s t → length t < length s
shorter r s t f = let q : length t ≡ length s - portion_count r = ap length f.rest ∙ length-drop (portion_count r) s in
    let o : 1 ≤ portion_count r = f.some in let h : portion_count r ≤ length s = f.there in omega (arith, q, o, h)

-- how many cells are left after the first ones, whatever they are
pub counted : (v : View) (all : List Stretch) (s : Stretch) (ss : List Stretch) (p k n : ℕ) (whole t : List Cell) → all ≡ s ∷ ss → p < stretch_count s
    → k ≡ n → p + n ≤ stretch_count s → drop p (cells_of v all) ≡ whole → t ≡ drop k (drop p (cells_of v all)) → length whole ≡ n + length t
counted v all s ss p k n whole t e h d m w b =
    let q : length (drop p (cells_of v all)) ≡ stretch_count s - p + length (cells_of v ss) = left_in v all s ss p e h in
    let z : length t ≡ length (drop p (cells_of v all)) - k = ap length b ∙ length-drop k (drop p (cells_of v all)) in
    let y : length (drop p (cells_of v all)) ≡ length whole = ap length w in omega (arith, q, m, z, y, d)
