-- Blocks put together, of which the first bytes are taken.
--     joined f c n s           the first s bytes of n blocks from c on
--     Same f g c n s           these blocks agree, as far as they lie in the first s bytes
use Rattle.std.proofs.Common.{◌≡◌, refl, sym, ◌∙◌, ap, subst, ℕ, ◌+◌, ◌-◌, ◌<◌, ◌≤◌, List, [], ◌∷◌, ◌++◌, length, take, drop, arith, min}
use Rattle.std.specs.Prelude.{zero, suc, flat_map, ⊤}
use Rattle.std.specs.List.{range_with_len}
use Rattle.std.proofs.Math.Seq.{take-nil}
use Rattle.std.proofs.lemmas.List.{length-take, drop-append-le, length-drop}
use Rattle.std.proofs.lemmas.List.Concat.{flat_map-cons}
use Rattle.udfs_lattice.proofs.Inclusion.{Includes}
use Rattle.udfs_volume.specs.Sequence.{Bytes}

take_append : (n : ℕ) (xs ys : Bytes) → take n (xs ++ ys) ≡ take n xs ++ take (n - length xs) ys
take_append n [] ys = go (take n []) (take-nil n)
  where
    go : (zs : Bytes) → zs ≡ [] → take n ys ≡ zs ++ take (n - 0) ys
    go zs e = (λ i. take (same n i) ys) ∙ ap (λ x. x ++ take (n - 0) ys) (sym e)
      where
        same : (n : ℕ) → n ≡ n - 0
        same n = omega arith
take_append zero (x ∷ xs) ys = (λ i. take (none (length xs) i) ys)
  where
    none : (k : ℕ) → 0 ≡ 0 - suc k
    none k = omega arith
take_append (suc n) (x ∷ xs) ys = ap (λ z. x ∷ z) (take_append n xs ys) ∙ (λ i. x ∷ (take n xs ++ take (less n (length xs) i) ys))
  where
    less : (n k : ℕ) → n - k ≡ suc n - suc k
    less n k = omega arith

-- the parts of two lists whose first parts are as long
pub parts_same : (xs ys xs' ys' : Bytes) → length xs ≡ length xs' → xs ++ ys ≡ xs' ++ ys' → (xs ≡ xs') × (ys ≡ ys')
parts_same [] ys [] ys' l e = (refl, e)
parts_same [] ys (x ∷ xs') ys' l e = absurd (let z : ⊥ = cc in z)
parts_same (x ∷ xs) ys [] ys' l e = absurd (let z : ⊥ = cc in z)
parts_same (x ∷ xs) ys (x' ∷ xs') ys' l e = go (parts_same xs ys xs' ys' (suc_same (length xs) (length xs') l) (tails (xs ++ ys) (xs' ++ ys') e)) (heads (xs ++ ys) (xs' ++ ys') e)
  where
    suc_same : (a b : ℕ) → suc a ≡ suc b → a ≡ b
    suc_same a b e = omega (arith, e)

    tails : (us vs : Bytes) → x ∷ us ≡ x' ∷ vs → us ≡ vs
    tails us vs e = cc

    heads : (us vs : Bytes) → x ∷ us ≡ x' ∷ vs → x ≡ x'
    heads us vs e = cc

    go : (xs ≡ xs') × (ys ≡ ys') → x ≡ x' → (x ∷ xs ≡ x' ∷ xs') × (ys ≡ ys')
    go (p, q) r = ((λ i. r i ∷ p i), q)

abbrev pub joined : (ℕ → Bytes) → ℕ → ℕ → ℕ → Bytes
joined f c zero s = []
joined f c (suc n) s = take s (f c) ++ joined f (c + 1) n (s - 2048)

abbrev pub AreFull : (ℕ → Bytes) → ℕ → ℕ → Type 0
AreFull f c n = (k : ℕ) → c ≤ k → k < c + n → length (f k) ≡ 2048

later_full : (f : ℕ → Bytes) (c n : ℕ) → AreFull f c (suc n) → AreFull f (c + 1) n
later_full f c n h k l m = h k (omega (arith, l)) (omega (arith, m))

first_full : (f : ℕ → Bytes) (c n : ℕ) → AreFull f c (suc n) → length (f c) ≡ 2048
first_full f c n h = h c (omega arith) (omega arith)

pub joined_is : (f : ℕ → Bytes) (c n s : ℕ) → AreFull f c n → take s (flat_map f (range_with_len c n)) ≡ joined f c n s
joined_is f c zero s h = take-nil s
joined_is f c (suc n) s h = ap (take s) (flat_map-cons f c (range_with_len (c + 1) n)) ∙ take_append s (f c) (flat_map f (range_with_len (c + 1) n))
    ∙ ap (λ x. take s (f c) ++ take (s - x) (flat_map f (range_with_len (c + 1) n))) (first_full f c n h)
    ∙ ap (λ x. take s (f c) ++ x) (joined_is f (c + 1) n (s - 2048) (later_full f c n h))

-- blocks that are counted from a place
pub from_place : (f : ℕ → Bytes) (q c n : ℕ) → flat_map f (range_with_len (q + c) n) ≡ flat_map (λ k. f (q + k)) (range_with_len c n)
from_place f q c zero = refl
from_place f q c (suc n) = flat_map-cons f (q + c) (range_with_len (q + c + 1) n)
    ∙ ap (λ x. f (q + c) ++ flat_map f (range_with_len x n)) (turn q c)
    ∙ ap (λ x. f (q + c) ++ x) (from_place f q (c + 1) n)
    ∙ sym (flat_map-cons (λ k. f (q + k)) c (range_with_len (c + 1) n))
  where
    turn : (q c : ℕ) → q + c + 1 ≡ q + (c + 1)
    turn q c = omega arith

abbrev pub Same : (ℕ → Bytes) → (ℕ → Bytes) → ℕ → ℕ → ℕ → Type 0
Same f g c zero s = ⊤
Same f g c (suc n) s = (take s (f c) ≡ take s (g c)) × Same f g (c + 1) n (s - 2048)

pub same_joined : (f g : ℕ → Bytes) (c n s : ℕ) → Same f g c n s → joined f c n s ≡ joined g c n s
same_joined f g c zero s h = refl
same_joined f g c (suc n) s h = λ i. h.0 i ++ same_joined f g (c + 1) n (s - 2048) h.1 i

taken_alike : (s : ℕ) (xs ys : Bytes) → length xs ≡ 2048 → length ys ≡ 2048 → length (take s xs) ≡ length (take s ys)
taken_alike s xs ys p q = length-take s xs ∙ ap (min s) (p ∙ sym q) ∙ sym (length-take s ys)

pub joined_same : (f g : ℕ → Bytes) (c n s : ℕ) → AreFull f c n → AreFull g c n → joined f c n s ≡ joined g c n s → Same f g c n s
joined_same f g c zero s hf hg e = tt
joined_same f g c (suc n) s hf hg e = go (parts_same (take s (f c)) (joined f (c + 1) n (s - 2048)) (take s (g c)) (joined g (c + 1) n (s - 2048))
    (taken_alike s (f c) (g c) (first_full f c n hf) (first_full g c n hg)) e)
    (joined_same f g (c + 1) n (s - 2048) (later_full f c n hf) (later_full g c n hg))
  where
    go : (take s (f c) ≡ take s (g c)) × (joined f (c + 1) n (s - 2048) ≡ joined g (c + 1) n (s - 2048))
        → (joined f (c + 1) n (s - 2048) ≡ joined g (c + 1) n (s - 2048) → Same f g (c + 1) n (s - 2048)) → Same f g c (suc n) s
    go (p, q) later = (p, later q)

-- what is the same behind the first 16 bytes is the same from the second block on
pub same_behind : (f g : ℕ → Bytes) (n s : ℕ) → 56 ≤ s → AreFull f 0 (suc n) → AreFull g 0 (suc n)
    → drop 16 (joined f 0 (suc n) s) ≡ drop 16 (joined g 0 (suc n) s) → Same f g 1 n (s - 2048)
same_behind f g n s h hf hg e = joined_same f g 1 n (s - 2048) (later_full f 0 n hf) (later_full g 0 n hg)
    (parts_same (drop 16 (take s (f 0))) (joined f 1 n (s - 2048)) (drop 16 (take s (g 0))) (joined g 1 n (s - 2048)) lengths
    (sym (drop-append-le 16 (take s (f 0)) (joined f 1 n (s - 2048)) (long f (first_full f 0 n hf))) ∙ e
    ∙ drop-append-le 16 (take s (g 0)) (joined g 1 n (s - 2048)) (long g (first_full g 0 n hg)))).1
  where
    at_least : (s : ℕ) → 56 ≤ s → 16 ≤ min s 2048
    at_least s h = grind arith

    long : (f : ℕ → Bytes) → length (f 0) ≡ 2048 → 16 ≤ length (take s (f 0))
    long f p = subst (λ x. 16 ≤ x) (sym (length-take s (f 0) ∙ ap (min s) p)) (at_least s h)

    lengths : length (drop 16 (take s (f 0))) ≡ length (drop 16 (take s (g 0)))
    lengths = length-drop 16 (take s (f 0)) ∙ ap (λ x. x - 16) (taken_alike s (f 0) (g 0) (first_full f 0 n hf) (first_full g 0 n hg)) ∙ sym (length-drop 16 (take s (g 0)))

-- blocks of which each is taken from one of several rows that all agree with g
pub same_mixed : (V h g : ℕ → Bytes) (places : List ℕ) (c n s : ℕ)
    → ((k : ℕ) → c ≤ k → k < c + n → (q : ℕ) × Includes places q × (h k ≡ V (q + k)))
    → ((q : ℕ) → Includes places q → Same (λ k. V (q + k)) g c n s) → Same h g c n s
same_mixed V h g places c zero s pick all = tt
same_mixed V h g places c (suc n) s pick all = (
  head (pick c (omega arith) (omega arith)),
  same_mixed V h g places (c + 1) n (s - 2048) (λ k l m. pick k (omega (arith, l)) (omega (arith, m))) (λ q i. (all q i).1),
)
  where
    head : (q : ℕ) × Includes places q × (h c ≡ V (q + c)) → take s (h c) ≡ take s (g c)
    head (q, i, e) = ap (take s) e ∙ (all q i).0
