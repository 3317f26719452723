-- So many cells at the front, where 2048 at most lie in one block or in two.
use Rattle.std.proofs.Common.{◌≡◌, refl, sym, ◌∙◌, ap, subst, inl, inr, ℕ, ◌+◌, ◌-◌, ◌%◌, ◌<◌, ◌≤◌, min, List, [], ◌∷◌, ◌++◌, length, take, drop, map, arith, Option, Some, None, append-nil}
use Rattle.std.specs.Prelude.{zero, suc}
use Rattle.std.proofs.lemmas.List.{length-drop, map-append}
use Rattle.udfs_space.specs.Places.{View}
use Rattle.udfs_space.specs.Views.{view_now}
use Rattle.udfs_file.specs.CellsLeft.{IsInFirst, IsSettled, cells_left, room, room_of}
use Rattle.udfs_file.specs.declared.cells.Cells.{Cells}
use Rattle.udfs_file.specs.Fronts.{first_missing, holder_of, value}
use Rattle.udfs_file.specs.Pieces.{BeginsBlock, Starts, byte_cells, rest_in_block}
use Rattle.udfs_file.specs.Stretches.{FillsBlocks, IsLastStretch, LieInBlocks, stretch_count, cells_of}
use Rattle.udfs_file.specs.declared.cells.Cell.{Cell}
use Rattle.udfs_file.specs.declared.cells.Cell.TheVariants.{Gap}
use Rattle.udfs_file.specs.declared.stretches.Stretch.{Stretch}
use Rattle.udfs_file.specs.declared.stretches.Stretch.TheVariants.{Recorded, Zeros, Missing}
use Rattle.udfs_file.proofs.CellLemmas.{left_in, none_after, rest_some}

-- ---- where a second piece begins
pub starts_zero : (ss : List Stretch) → Starts 0 ss
starts_zero [] = tt
starts_zero (s ∷ ss) = (λ h. begins s, λ h. subst (λ n. Starts n ss) (let e : 0 ≡ 0 - stretch_count s = omega arith in e) (starts_zero ss))
  where
    begins : (s : Stretch) → BeginsBlock s 0
    begins (Recorded run n) = inr refl
    begins (Zeros n) = refl
    begins (Missing b n) = tt

-- behind all cells of the first stretch that lie in its block
starts_behind : (s : Stretch) (ss : List Stretch) (p k : ℕ) → p < stretch_count s → k ≡ rest_in_block s p → Starts (p + k) (s ∷ ss)
starts_behind (Recorded run n) ss p k h e = (
  λ l. inl (let z : (run.offset + (p + k)) % 2048 ≡ 0 = omega (arith, e, l, h) in z),
  λ l. subst (λ m. Starts m ss) (let z : 0 ≡ p + k - n = omega (arith, e, l, h) in z) (starts_zero ss),
)
starts_behind (Zeros n) ss p k h e = (λ l. absurd (let z : ⊥ = omega (arith, e, l, h) in z), λ l. subst (λ m. Starts m ss) (let z : 0 ≡ p + k - n = omega (arith, e, l, h) in z) (starts_zero ss))
starts_behind (Missing b n) ss p k h e = (λ l. tt, λ l. subst (λ m. Starts m ss) (let z : 0 ≡ p + k - n = omega (arith, e, l, h) in z) (starts_zero ss))

pub starts_then : (all : List Stretch) (p k : ℕ) → IsInFirst p all → k ≡ room_of p all → Starts (p + k) all
starts_then [] p k i e = tt
starts_then (s ∷ ss) p k i e = starts_behind s ss p k i.0 e

-- ---- the second piece is enough
room_last : (s : Stretch) (p left : ℕ) → BeginsBlock s p → IsLastStretch s → p < stretch_count s → left < 2048 → left ≤ stretch_count s - p → left ≤ rest_in_block s p
room_last (Recorded run n) p left (inl b) l h m t = omega (arith, b, h, m, t)
room_last (Recorded run n) p left (inr b) (inl l) h m t = omega (arith, b, l, h, m, t)
room_last (Recorded run n) p left (inr b) (inr l) h m t = omega (arith, b, l, h, m, t)
room_last (Zeros n) p left b l h m t = t
room_last (Missing c n) p left b l h m t = t

room_filled : (s : Stretch) (p left : ℕ) → BeginsBlock s p → FillsBlocks s → p < stretch_count s → left < 2048 → left ≤ rest_in_block s p
room_filled (Recorded run n) p left (inl b) f h m = let o : run.offset ≡ 0 = f.0 in let c : n % 2048 ≡ 0 = f.1 in omega (arith, b, o, c, h, m)
room_filled (Recorded run n) p left (inr b) f h m = let o : run.offset ≡ 0 = f.0 in let c : n % 2048 ≡ 0 = f.1 in omega (arith, b, o, c, h, m)
room_filled (Zeros n) p left b f h m = omega (arith, b, f, h, m)
room_filled (Missing c n) p left b f h m = absurd f

pub room_enough : (v : View) (all : List Stretch) (p left : ℕ) → IsInFirst p all → Starts p all → LieInBlocks all → 1 ≤ left → left < 2048 → left ≤ length (drop p (cells_of v all)) → left ≤ room_of p all
room_enough v [] p left i s b o m t = absurd (let e : length (drop p (cells_of v [])) ≡ 0 = length-drop p (cells_of v []) ∙ none in let z : ⊥ = omega (arith, e, t, o) in z)
  where
    none : length (cells_of v []) - p ≡ 0
    none = let q : length (cells_of v []) ≡ 0 = ap length (none_after v [] 0 (omega arith)) in omega (arith, q)
room_enough v (s ∷ []) p left i st b o m t = room_last s p left (st.0 i.0) b i.0 m (let q : length (drop p (cells_of v (s ∷ []))) ≡ stretch_count s - p + length (cells_of v []) = left_in v (s ∷ []) s [] p refl i.0 in
    let r : length (cells_of v []) ≡ 0 = ap length (none_after v [] 0 (omega arith)) in omega (arith, q, r, t))
room_enough v (s ∷ u ∷ us) p left i st b o m t = room_filled s p left (st.0 i.0) b.0 i.0 m

-- ---- bytes in pieces
bytes_missing : (o : Option ℕ) (bytes : List ℕ) (cs : List Cell) → first_missing (byte_cells o bytes ++ cs) ≡ first_missing cs
bytes_missing o [] cs = refl
bytes_missing o (x ∷ xs) cs = bytes_missing o xs cs

bytes_values : (o : Option ℕ) (bytes : List ℕ) → map value (byte_cells o bytes) ≡ bytes
bytes_values o [] = refl
bytes_values o (x ∷ xs) = ap (λ l. x ∷ l) (bytes_values o xs)

bytes_holder : (o : Option ℕ) (bytes : List ℕ) (cs : List Cell) → 1 ≤ length bytes → holder_of (byte_cells o bytes ++ cs) ≡ o
bytes_holder o [] cs h = absurd (let z : ⊥ = omega (arith, h) in z)
bytes_holder o (x ∷ xs) cs h = refl

-- the first piece holds all of them
pub one_piece : (cells : List Cell) (o : Option ℕ) (first : List ℕ) → 1 ≤ length first → cells ≡ byte_cells o first
    → (first_missing cells ≡ None) × (map value cells ≡ first ++ []) × (holder_of cells ≡ o)
one_piece cells o first h e = (ap first_missing whole ∙ bytes_missing o first [], ap (map value) e ∙ bytes_values o first ∙ sym (append-nil first), ap holder_of whole ∙ bytes_holder o first [] h)
  where
    whole : cells ≡ byte_cells o first ++ []
    whole = e ∙ sym (append-nil (byte_cells o first))

pub two_pieces : (cells : List Cell) (o q : Option ℕ) (first second : List ℕ) → 1 ≤ length first → cells ≡ byte_cells o first ++ byte_cells q second
    → (first_missing cells ≡ None) × (map value cells ≡ first ++ second) × (holder_of cells ≡ o)
two_pieces cells o q first second h e = (
  ap first_missing e ∙ bytes_missing o first (byte_cells q second) ∙ sym (ap first_missing (append-nil (byte_cells q second))) ∙ bytes_missing q second [],
  ap (map value) e ∙ map-append value (byte_cells o first) (byte_cells q second) ∙ (λ i. bytes_values o first i ++ bytes_values q second i),
  ap holder_of e ∙ bytes_holder o first (byte_cells q second) h,
)

pub gap_first : (cells rest : List Cell) (n : ℕ) → cells ≡ Gap n ∷ rest → first_missing cells ≡ Some n
gap_first cells rest n e = ap first_missing e

pub gap_second : (cells rest : List Cell) (o : Option ℕ) (first : List ℕ) (n : ℕ) → cells ≡ byte_cells o first ++ Gap n ∷ rest → first_missing cells ≡ Some n
gap_second cells rest o first n e = ap first_missing e ∙ bytes_missing o first (Gap n ∷ rest)

take-nothing : {A : Type 0} (n : ℕ) → take {A = A} n [] ≡ []
take-nothing zero = refl
take-nothing (suc n) = refl

-- so many, cut in two
pub take_two : {A : Type 0} (k left want : ℕ) (xs : List A) → want ≡ k + left → take want xs ≡ take k xs ++ take left (drop k xs)
take_two k left want xs e = ap (λ n. take n xs) e ∙ go k left xs
  where
    go : {A : Type 0} (k left : ℕ) (xs : List A) → take (k + left) xs ≡ take k xs ++ take left (drop k xs)
    go zero left xs = ap (λ n. take n xs) (let z : 0 + left ≡ left = omega arith in z)
    go (suc k) left [] = take-nothing (suc k + left) ∙ sym (take-nothing left)
    go (suc k) left (x ∷ xs) = ap (λ n. take n (x ∷ xs)) (let z : suc k + left ≡ suc (k + left) = omega arith in z) ∙ ap (λ l. x ∷ l) (go k left xs)

-- a first missing cell of the first ones is that of more
pub gap_of_more : (k want : ℕ) (cs rest : List Cell) (n : ℕ) → k ≤ want → take k cs ≡ Gap n ∷ rest → first_missing (take want cs) ≡ Some n
gap_of_more zero want cs rest n h e = absurd (let z : ⊥ = cc in z)
gap_of_more (suc k) zero cs rest n h e = absurd (let z : ⊥ = omega (arith, h) in z)
gap_of_more (suc k) (suc want) [] rest n h e = absurd (let z : ⊥ = cc in z)
gap_of_more (suc k) (suc want) (c ∷ cs) rest n h e = let same : c ≡ Gap n = cc in ap (λ x. first_missing (x ∷ take want cs)) same

-- ---- two pieces put together
pub room_some : (v : View) (all : List Stretch) (p want : ℕ) → IsInFirst p all → 1 ≤ want → want ≤ length (drop p (cells_of v all)) → 1 ≤ room_of p all
room_some v [] p want i o h = absurd (let e : length (drop p (cells_of v [])) ≡ length (cells_of v []) - p = length-drop p (cells_of v []) in
    let q : length (cells_of v []) ≡ 0 = ap length (none_after v [] 0 (omega arith)) in let z : ⊥ = omega (arith, e, q, h, o) in z)
room_some v (s ∷ ss) p want i o h = rest_some s p i.0

-- the first piece ends where its block does, so the second begins one
pub second_enough : (w : View) (ts bs ss : List Stretch) (ap bp sp k want : ℕ) → IsInFirst ap ts → k ≡ min want (room_of ap ts) → k < want → 1 ≤ k → want ≤ 2048
    → (Starts (ap + k) ts → Starts bp bs) → ((j : ℕ) → Starts (bp + j) bs → Starts (sp + j) ss) → IsInFirst sp ss → LieInBlocks ss
    → want - k ≤ length (drop sp (cells_of w ss)) → want - k ≤ room_of sp ss
second_enough w ts bs ss ap bp sp k want i e h o m f g j l t = room_enough w ss sp (want - k) j starts l (omega (arith, h)) (omega (arith, o, m, h)) t
  where
    starts : Starts sp ss
    starts = subst (λ n. Starts n ss) (let z : sp + 0 ≡ sp = omega arith in z)
        (g 0 (subst (λ n. Starts n bs) (let z : bp ≡ bp + 0 = omega arith in z) (f (starts_then ts ap k i (omega (arith, e, h))))))

pub cut : (want room more : ℕ) (C CA CB CS second : List Cell) (o : Option ℕ) (first : List ℕ) → CA ≡ C → CB ≡ drop (length first) CA → CS ≡ CB
    → length first ≡ min want room → length first < want → take (min want room) CA ≡ byte_cells o first
    → want - length first ≤ more → take (min (want - length first) more) CS ≡ second → take want C ≡ byte_cells o first ++ second
cut want room more C CA CB CS second o first a b s e h p m q = ap (take want) (sym a) ∙ take_two (length first) (want - length first) want CA (omega (arith, h))
    ∙ (λ i. front i ++ back i)
  where
    front : take (length first) CA ≡ byte_cells o first
    front = ap (λ n. take n CA) e ∙ p

    back : take (want - length first) (drop (length first) CA) ≡ second
    back = ap (take (want - length first)) (sym b ∙ sym s) ∙ ap (λ n. take n CS) (let z : want - length first ≡ min (want - length first) more = omega (arith, m) in z) ∙ q

-- so many cells are left behind the first piece
pub left_behind : (want k : ℕ) (C CA CB CS : List Cell) → CA ≡ C → CB ≡ drop k CA → CS ≡ CB → want ≤ length C → want - k ≤ length CS
left_behind want k C CA CB CS a b s h = let e : length CS ≡ length C - k = ap length (s ∙ b) ∙ length-drop k CA ∙ ap (λ z. length z - k) a in omega (arith, e, h)

first_some : (A : Cells) (want k : ℕ) → IsSettled A → 1 ≤ want → want ≤ length (cells_left A) → k ≡ min want (room A) → 1 ≤ k
first_some A want k i o h e = let q : 1 ≤ room A = room_some (view_now A.view) A.stretches.now A.passed want i o h in omega (arith, q, o, e)

pub first_bytes : (C A : Cells) (want k : ℕ) → cells_left A ≡ cells_left C → IsSettled A → 1 ≤ want → want ≤ length (cells_left C) → k ≡ min want (room A) → 1 ≤ k
first_bytes C A want k a i o h e = first_some A want k i o (subst (λ z. want ≤ length z) (sym a) h) e

pub joined_front : (C A B S : Cells) (want : ℕ) (o : Option ℕ) (first : List ℕ) (second : List Cell)
    → cells_left A ≡ cells_left C → IsSettled A → (LieInBlocks C.stretches.now → LieInBlocks A.stretches.now)
    → cells_left B ≡ drop (length first) (cells_left A) → (Starts (A.passed + length first) A.stretches.now → Starts B.passed B.stretches.now) → (LieInBlocks A.stretches.now → LieInBlocks B.stretches.now)
    → cells_left S ≡ cells_left B → IsSettled S → ((j : ℕ) → Starts (B.passed + j) B.stretches.now → Starts (S.passed + j) S.stretches.now) → (LieInBlocks B.stretches.now → LieInBlocks S.stretches.now)
    → LieInBlocks C.stretches.now → 1 ≤ want → want ≤ 2048 → want ≤ length (cells_left C)
    → length first ≡ min want (room A) → length first < want → take (min want (room A)) (cells_left A) ≡ byte_cells o first
    → take (min (want - length first) (room S)) (cells_left S) ≡ second → take want (cells_left C) ≡ byte_cells o first ++ second
joined_front C A B S want o first second ac ai al bc bs bl sc si ss sl l w m h e short f q =
    cut want (room A) (room S) (cells_left C) (cells_left A) (cells_left B) (cells_left S) second o first ac bc sc e short f
    (second_enough (view_now S.view) A.stretches.now B.stretches.now S.stretches.now A.passed B.passed S.passed (length first) want ai e short
    (first_bytes C A want (length first) ac ai w h e) m bs ss si (sl (bl (al l))) (left_behind want (length first) (cells_left C) (cells_left A) (cells_left B) (cells_left S) ac bc sc h)) q
