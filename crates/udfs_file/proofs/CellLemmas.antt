-- Cells behind a first few, and how many of them lie in one block.
use Rattle.std.proofs.Common.{◌≡◌, refl, sym, ◌∙◌, ap, subst, inl, inr, ◌⊎◌, ℕ, ◌+◌, ◌-◌, ◌<◌, ◌≤◌, min, List, [], ◌∷◌, ◌++◌, length, take, drop, arith, length-append, true, false, nat_le, nat_eq, None, get_or, drop-cons}
use Rattle.std.specs.Prelude.{zero, suc}
use Rattle.std.proofs.Math.Seq.{drop-append-add}
use Rattle.std.proofs.lemmas.List.{length-replicate, drop-drop, length-drop, length-map, length-take-le, drop-append-le, take-append-le}
use Rattle.std.proofs.lemmas.List.FromFn.{length-map-range_with_len}
use Rattle.udfs_space.specs.Places.{View}
use Rattle.udfs_file.specs.Bodies.{recorded_cell}
use Rattle.udfs_file.specs.CellsLeft.{IsInFirst, room_of}
use Rattle.udfs_file.proofs.BodyFrom.{le_or_lt}
use Rattle.udfs_file.specs.Pieces.{FitsPiece, IsPieceOf, Starts, rest_in_block}
use Rattle.udfs_file.specs.Stretches.{LieInBlocks, stretch_cells, stretch_count, cells_of}
use Rattle.udfs_file.specs.declared.cells.Cell.{Cell}
use Rattle.udfs_file.specs.declared.cells.Cell.TheVariants.{Byte, Gap}
use Rattle.udfs_file.specs.declared.pieces.Piece.{Piece}
use Rattle.udfs_file.specs.declared.pieces.Piece.TheVariants as piece
use Rattle.udfs_file.specs.declared.stretches.Stretch.{Stretch}
use Rattle.udfs_file.specs.declared.stretches.Stretch.TheVariants.{Recorded, Zeros, Missing}

drop-nothing : {A : Type 0} (i : ℕ) → drop {A = A} i [] ≡ []
drop-nothing zero = refl
drop-nothing (suc i) = refl

pub length-stretch : (v : View) (s : Stretch) → length (stretch_cells v s) ≡ stretch_count s
length-stretch v (Recorded run n) = length-map-range_with_len (recorded_cell v run.address.reference run.address.block) run.offset n
length-stretch v (Zeros n) = length-replicate n (Byte 0 None)
length-stretch v (Missing b n) = length-replicate n (Gap b)

-- those that are passed leave the rest
pub pass : (v : View) (s : Stretch) (ss all : List Stretch) (p : ℕ) → all ≡ s ∷ ss → stretch_count s ≤ p
    → drop (p - stretch_count s) (cells_of v ss) ≡ drop p (cells_of v all)
unfolding cells_of
pass v s ss all p e h = sym (
    ap (λ l. drop p (cells_of v l)) e
    ∙ ap (λ n. drop n (stretch_cells v s ++ cells_of v ss)) (let q : length (stretch_cells v s) ≡ stretch_count s = length-stretch v s in
    let z : p ≡ length (stretch_cells v s) + (p - stretch_count s) = omega (arith, h, q) in z)
    ∙ drop-append-add (stretch_cells v s) (cells_of v ss) (p - stretch_count s))

-- ---- to the stretch in which the first cell lies
pub record IsSettling (v : View) (p : ℕ) (ss : List Stretch) (q : ℕ) (ts : List Stretch) : Type 0 where
  pub cells : drop q (cells_of v ts) ≡ drop p (cells_of v ss)
  pub starts : (k : ℕ) → Starts (p + k) ss → Starts (q + k) ts
  pub blocks : LieInBlocks ss → LieInBlocks ts

pub settling : (v : View) (p : ℕ) (ss : List Stretch) → IsSettling v p ss p ss
settling v p ss = record { cells = refl; starts = λ k s. s; blocks = λ b. b }

tail_lies : (s : Stretch) (ss : List Stretch) → LieInBlocks (s ∷ ss) → LieInBlocks ss
tail_lies s [] b = tt
tail_lies s (t ∷ ts) b = b.1

pub settle_on : (v : View) (p : ℕ) (ss : List Stretch) (q : ℕ) (all : List Stretch) (s : Stretch) (ts : List Stretch) (r : ℕ) → IsSettling v p ss q all → all ≡ s ∷ ts
    → stretch_count s ≤ q → r ≡ q - stretch_count s → IsSettling v p ss r ts
settle_on v p ss q all s ts r g e h d = record {
  cells = ap (λ n. drop n (cells_of v ts)) d ∙ pass v s ts all q e h ∙ g.cells;
  starts = λ k b. subst (λ n. Starts n ts) (let z : q + k - stretch_count s ≡ r + k = omega (arith, d, h) in z) ((subst (Starts (q + k)) e (g.starts k b)).1 (omega (arith, h)));
  blocks = λ b. tail_lies s ts (subst LieInBlocks e (g.blocks b));
}

-- ---- the first cells, as far as they lie in one block
pub front_part : (v : View) (s : Stretch) (ss all : List Stretch) (p k : ℕ) → all ≡ s ∷ ss → p + k ≤ stretch_count s
    → take k (drop p (cells_of v all)) ≡ take k (drop p (stretch_cells v s))
unfolding cells_of
front_part v s ss all p k e h = ap (λ l. take k (drop p (cells_of v l))) e
    ∙ ap (take k) (drop-append-le p A (cells_of v ss) (omega (arith, long, h)))
    ∙ take-append-le k (drop p A) (cells_of v ss) (let q : length (drop p A) ≡ length A - p = length-drop p A in omega (arith, long, h, q))
  where
    A : List Cell
    A = stretch_cells v s

    long : length A ≡ stretch_count s
    long = length-stretch v s

pub rest_fits : (s : Stretch) (p : ℕ) → p < stretch_count s → p + rest_in_block s p ≤ stretch_count s
rest_fits (Recorded run n) p h = omega (arith, h)
rest_fits (Zeros n) p h = omega (arith, h)
rest_fits (Missing b n) p h = omega (arith, h)

pub rest_some : (s : Stretch) (p : ℕ) → p < stretch_count s → 1 ≤ rest_in_block s p
rest_some (Recorded run n) p h = omega (arith, h)
rest_some (Zeros n) p h = omega (arith, h)
rest_some (Missing b n) p h = omega (arith, h)

pub room_first : (all : List Stretch) (s : Stretch) (ss : List Stretch) (p : ℕ) → all ≡ s ∷ ss → rest_in_block s p ≡ room_of p all
room_first all s ss p e = sym (ap (room_of p) e)

pub in_first : (all : List Stretch) (s : Stretch) (ss : List Stretch) (p : ℕ) → all ≡ s ∷ ss → IsInFirst p all → p < stretch_count s
in_first all s ss p e h = (subst (IsInFirst p) e h).0

-- so many of all cells from a place on, where they lie in the first stretch
pub first_cells : (v : View) (all : List Stretch) (s : Stretch) (ss : List Stretch) (p want : ℕ) → all ≡ s ∷ ss → IsInFirst p all
    → take (min want (rest_in_block s p)) (drop p (stretch_cells v s)) ≡ take (min want (room_of p all)) (drop p (cells_of v all))
first_cells v all s ss p want e h = sym (front_part v s ss all p (min want (rest_in_block s p)) e (let f : p + rest_in_block s p ≤ stretch_count s = rest_fits s p (in_first all s ss p e h) in omega (arith, f)))
    ∙ ap (λ n. take (min want n) (drop p (cells_of v all))) (room_first all s ss p e)

pub length_first : (v : View) (all : List Stretch) (s : Stretch) (ss : List Stretch) (p want : ℕ) → all ≡ s ∷ ss → IsInFirst p all
    → length (take (min want (rest_in_block s p)) (drop p (stretch_cells v s))) ≡ min want (room_of p all)
length_first v all s ss p want e h = length-take-le (min want (rest_in_block s p)) (drop p (stretch_cells v s))
    (let q : length (drop p (stretch_cells v s)) ≡ length (stretch_cells v s) - p = length-drop p (stretch_cells v s) in
    let long : length (stretch_cells v s) ≡ stretch_count s = length-stretch v s in
    let f : p + rest_in_block s p ≤ stretch_count s = rest_fits s p (in_first all s ss p e h) in omega (arith, q, long, f))
    ∙ ap (min want) (room_first all s ss p e)

pub piece_fits : (piece : Piece) (cells : List Cell) (n : ℕ) → IsPieceOf piece cells → length cells ≡ n → FitsPiece piece n
piece_fits (piece.Bytes bytes holder) cells n i e = sym (length-map bytes.now (λ x. Byte x holder)) ∙ sym (ap length i) ∙ e
piece_fits (piece.Gap b) cells n i e = tt

-- ---- how many cells there are
cells_next : (v : View) (ss : List Stretch) (i : ℕ) (d : Stretch) → i < length ss → cells_of v (drop i ss) ≡ stretch_cells v (get_or ss i d) ++ cells_of v (drop (i + 1) ss)
unfolding cells_of
cells_next v ss i d h = ap (cells_of v) (drop-cons ss i d h) ∙ ap (λ n. stretch_cells v (get_or ss i d) ++ cells_of v (drop n ss)) (let e : suc i ≡ i + 1 = omega arith in e)

pub length_next : (v : View) (ss : List Stretch) (i : ℕ) (d : Stretch) → i < length ss
    → length (cells_of v (drop i ss)) ≡ stretch_count (get_or ss i d) + length (cells_of v (drop (i + 1) ss))
length_next v ss i d h = ap length (cells_next v ss i d h) ∙ length-append (stretch_cells v (get_or ss i d)) (cells_of v (drop (i + 1) ss))
    ∙ ap (λ n. n + length (cells_of v (drop (i + 1) ss))) (length-stretch v (get_or ss i d))

pub none_after : (v : View) (ss : List Stretch) (i : ℕ) → length ss ≤ i → cells_of v (drop i ss) ≡ []
unfolding cells_of
none_after v [] zero h = refl
none_after v [] (suc i) h = refl
none_after v (s ∷ ss) zero h = absurd (let z : ⊥ = omega (arith, h) in z)
none_after v (s ∷ ss) (suc i) h = none_after v ss i (omega (arith, h))

is_le : (a b : ℕ) → a ≤ b → nat_le a b ≡ true
is_le a b h = grind arith

not_le : (a b : ℕ) → b < a → nat_le a b ≡ false
not_le a b h = grind arith

le_same : (a b c d : ℕ) → (a ≤ b → c ≤ d) → (b < a → d < c) → nat_le a b ≡ nat_le c d
le_same a b c d f g = go (le_or_lt a b)
  where
    go : (a ≤ b) ⊎ (b < a) → nat_le a b ≡ nat_le c d
    go (inl h) = is_le a b h ∙ sym (is_le c d (f h))
    go (inr h) = not_le a b h ∙ sym (not_le c d (g h))

pub held_first : (v : View) (ss : List Stretch) (i left : ℕ) (d : Stretch) → i < length ss → left ≤ stretch_count (get_or ss i d) → true ≡ nat_le left (length (cells_of v (drop i ss)))
held_first v ss i left d h l = sym (is_le left (length (cells_of v (drop i ss))) (let e : length (cells_of v (drop i ss)) ≡ stretch_count (get_or ss i d) + length (cells_of v (drop (i + 1) ss)) = length_next v ss i d h in omega (arith, e, l)))

pub held_on : (v : View) (ss : List Stretch) (i left : ℕ) (d : Stretch) → i < length ss → stretch_count (get_or ss i d) < left
    → nat_le (left - stretch_count (get_or ss i d)) (length (cells_of v (drop (i + 1) ss))) ≡ nat_le left (length (cells_of v (drop i ss)))
held_on v ss i left d h l = le_same _ _ _ _ (λ q. omega (arith, e, l, q)) (λ q. omega (arith, e, l, q))
  where
    e : length (cells_of v (drop i ss)) ≡ stretch_count (get_or ss i d) + length (cells_of v (drop (i + 1) ss))
    e = length_next v ss i d h

pub held_none : (v : View) (ss : List Stretch) (i left : ℕ) → length ss ≤ i → nat_eq left 0 ≡ nat_le left (length (cells_of v (drop i ss)))
held_none v ss i left h = zero_le left ∙ ap (λ cs. nat_le left (length cs)) (sym (none_after v ss i h))
  where
    zero_le : (n : ℕ) → nat_eq n 0 ≡ nat_le n 0
    zero_le n = grind arith

-- ---- the same behind a first few, of which some lie in the first stretch
pub left_in : (v : View) (all : List Stretch) (s : Stretch) (ss : List Stretch) (p : ℕ) → all ≡ s ∷ ss → p < stretch_count s
    → length (drop p (cells_of v all)) ≡ stretch_count s - p + length (cells_of v ss)
left_in v all s ss p e h = length-drop p (cells_of v all) ∙ (let q : length (cells_of v all) ≡ stretch_count s + length (cells_of v ss) = whole in
    let z : length (cells_of v all) - p ≡ stretch_count s - p + length (cells_of v ss) = omega (arith, q, h) in z)
  where
    whole : length (cells_of v all) ≡ stretch_count s + length (cells_of v ss)
    whole = ap (λ l. length (cells_of v l)) e ∙ length_next v (s ∷ ss) 0 s (omega arith)

pub held_in : (v : View) (all : List Stretch) (s : Stretch) (ss : List Stretch) (p count : ℕ) → all ≡ s ∷ ss → p < stretch_count s → count ≤ stretch_count s - p
    → true ≡ nat_le count (length (drop p (cells_of v all)))
held_in v all s ss p count e h l = sym (is_le count (length (drop p (cells_of v all))) (let q : length (drop p (cells_of v all)) ≡ stretch_count s - p + length (cells_of v ss) = left_in v all s ss p e h in omega (arith, q, l)))

pub held_behind : (v : View) (all : List Stretch) (s : Stretch) (ss : List Stretch) (p count : ℕ) → all ≡ s ∷ ss → p < stretch_count s → stretch_count s - p < count
    → nat_le (count - (stretch_count s - p)) (length (cells_of v ss)) ≡ nat_le count (length (drop p (cells_of v all)))
held_behind v all s ss p count e h l = le_same _ _ _ _ (λ q. omega (arith, w, l, q)) (λ q. omega (arith, w, l, q))
  where
    w : length (drop p (cells_of v all)) ≡ stretch_count s - p + length (cells_of v ss)
    w = left_in v all s ss p e h

pub held_nowhere : (v : View) (all : List Stretch) (p count : ℕ) → length all ≡ 0 → nat_eq count 0 ≡ nat_le count (length (drop p (cells_of v all)))
unfolding cells_of
held_nowhere v [] p count e = held_none v [] 0 count (omega arith) ∙ ap (λ cs. nat_le count (length cs)) (sym (drop-nothing p))
held_nowhere v (s ∷ ss) p count e = absurd (let z : ⊥ = omega (arith, e) in z)

pub behind_in : (v : View) (all : List Stretch) (s : Stretch) (ss : List Stretch) (p count k : ℕ) → all ≡ s ∷ ss → p < stretch_count s → stretch_count s - p < count → k ≡ count - (stretch_count s - p)
    → drop k (cells_of v ss) ≡ drop count (drop p (cells_of v all))
behind_in v all s ss p count k e h l d = (λ i. drop (same i) (cells_of v ss)) ∙ pass v s ss all (p + count) e (omega (arith, h, l)) ∙ sym (drop-drop count p (cells_of v all))
  where
    same : k ≡ p + count - stretch_count s
    same = omega (arith, d, h, l)

pub behind_none : (v : View) (all : List Stretch) (p count : ℕ) → length all ≡ 0 → drop p (cells_of v all) ≡ drop count (drop p (cells_of v all))
unfolding cells_of
behind_none v [] p count e = drop-nothing p ∙ sym (drop-nothing count) ∙ ap (drop count) (sym (drop-nothing p))
behind_none v (s ∷ ss) p count e = absurd (let z : ⊥ = omega (arith, e) in z)

-- and where one begins there
pub starts_in : (all : List Stretch) (s : Stretch) (ss : List Stretch) (p count k : ℕ) → all ≡ s ∷ ss → p < stretch_count s → stretch_count s - p < count → k ≡ count - (stretch_count s - p)
    → Starts (p + count) all → Starts k ss
starts_in all s ss p count k e h l d b = subst (λ n. Starts n ss) (let z : p + count - stretch_count s ≡ k = omega (arith, d, h, l) in z) ((subst (Starts (p + count)) e b).1 (omega (arith, h, l)))

pub starts_none : (all : List Stretch) (p : ℕ) → length all ≡ 0 → Starts p all
starts_none [] p e = tt
starts_none (s ∷ ss) p e = absurd (let z : ⊥ = omega (arith, e) in z)
