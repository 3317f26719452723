-- The positions of the sequence that are known to be reached.
use Rattle.std.proofs.Common.{◌≡◌, refl, sym, ◌∙◌, ap, inl, inr, ◌⊎◌, ℕ, ◌+◌, ◌-◌, ◌<◌, ◌≤◌, Bool, true, false, cond, List, [], ◌∷◌, ◌++◌, filter, arith, append_assoc, append-nil}
use Rattle.std.specs.Prelude.{zero, suc, flat_map}
use Rattle.std.specs.List.{list_all, range_with_len}
use Rattle.std.proofs.lemmas.List.Concat.{flat_map-cons}
use Rattle.udfs_lattice.specs.Volumes.{Blocks}
use Rattle.udfs_volume.specs.Differences.{reaches}
use Rattle.udfs_volume.specs.Sequence.{goes_on, position}
use Rattle.udfs_volume.specs.declared.anchors.AnchorExtents.{AnchorExtents}
use Rattle.udfs_volume.proofs.Known.{both, true_false}
use Rattle.udfs_lawfulness.specs.Sequences.{pair_at}

pub unroll : (i n : ℕ) → i < n → range_with_len i (n - i) ≡ i ∷ range_with_len (i + 1) (n - (i + 1))
unroll i n h = let e : n - i ≡ suc (n - (i + 1)) = omega (arith, h) in ap (range_with_len i) e

-- what holds of all numbers of a row holds of each
pub all_at : (f : ℕ → Bool) (c n j : ℕ) → list_all f (range_with_len c n) ≡ true → c ≤ j → j < c + n → f j ≡ true
all_at f c zero j h l m = absurd (let z : ⊥ = omega (arith, l, m) in z)
all_at f c (suc n) j h l m = go (λ k. all_at f (c + 1) n j q.1 k (omega (arith, m))) (eq_or_later c j l)
  where
    q : (f c ≡ true) × (list_all f (range_with_len (c + 1) n) ≡ true)
    q = both (f c) (list_all f (range_with_len (c + 1) n)) h

    eq_or_later : (c j : ℕ) → c ≤ j → (c ≡ j) ⊎ (c + 1 ≤ j)
    eq_or_later c j h = grind arith

    go : (c + 1 ≤ j → f j ≡ true) → (c ≡ j) ⊎ (c + 1 ≤ j) → f j ≡ true
    go later (inl e) = ap f (sym e) ∙ q.0
    go later (inr k) = later k

-- none of a row passes
pub filter_none : (f : ℕ → Bool) (c n : ℕ) → ((j : ℕ) → c ≤ j → j < c + n → f j ≡ false) → filter f (range_with_len c n) ≡ []
filter_none f c zero h = refl
filter_none f c (suc n) h = ap (λ b. cond b (c ∷ filter f (range_with_len (c + 1) n)) (filter f (range_with_len (c + 1) n))) (h c (omega arith) (omega arith))
    ∙ filter_none f (c + 1) n (λ j l m. h j (omega (arith, l)) (omega (arith, m)))

-- after a position that does not go on none is reached
pub none_after : (T : Blocks) (e : AnchorExtents) (i n : ℕ) → goes_on (position T (e.main.block + i) (e.reserve.block + i)) ≡ false
    → filter (reaches T e) (range_with_len (i + 1) n) ≡ []
none_after T e i n g = filter_none (reaches T e) (i + 1) n (λ k a b. go k a (reaches T e k) refl)
  where
    go : (k : ℕ) → i + 1 ≤ k → (r : Bool) → reaches T e k ≡ r → reaches T e k ≡ false
    go k a false h = h
    go k a true h = true_false (goes_on (position T (e.main.block + i) (e.reserve.block + i)))
        (all_at (λ j. goes_on (position T (e.main.block + j) (e.reserve.block + j))) 0 k i h (omega arith) (omega (arith, a))) g

-- a position that is reached stands before those after it
pub pairs_step : (T : Blocks) (e : AnchorExtents) (front : List ℕ) (i n : ℕ) (x : List ℕ) → i < n → reaches T e i ≡ true
    → front ++ flat_map (pair_at e) (filter (reaches T e) (range_with_len i (n - i))) ≡ x
    → ((front ++ (e.main.block + i) ∷ []) ++ (e.reserve.block + i) ∷ []) ++ flat_map (pair_at e) (filter (reaches T e) (range_with_len (i + 1) (n - (i + 1)))) ≡ x
pairs_step T e front i n x h r eq =
    let later : List ℕ = filter (reaches T e) (range_with_len (i + 1) (n - (i + 1))) in
    let rest : List ℕ = flat_map (pair_at e) later in
    append_assoc (front ++ (e.main.block + i) ∷ []) ((e.reserve.block + i) ∷ []) rest
    ∙ append_assoc front ((e.main.block + i) ∷ []) ((e.reserve.block + i) ∷ rest)
    ∙ ap (λ xs. front ++ xs) (sym (flat_map-cons (pair_at e) i later))
    ∙ ap (λ b. front ++ flat_map (pair_at e) (cond b (i ∷ later) later)) (sym r)
    ∙ ap (λ xs. front ++ flat_map (pair_at e) (filter (reaches T e) xs)) (sym (unroll i n h)) ∙ eq

-- and where it does not go on, that is all
pub pairs_end : (T : Blocks) (e : AnchorExtents) (front : List ℕ) (i n : ℕ) (x : List ℕ) → i < n → reaches T e i ≡ true
    → goes_on (position T (e.main.block + i) (e.reserve.block + i)) ≡ false
    → front ++ flat_map (pair_at e) (filter (reaches T e) (range_with_len i (n - i))) ≡ x
    → (front ++ (e.main.block + i) ∷ []) ++ (e.reserve.block + i) ∷ [] ≡ x
pairs_end T e front i n x h r g eq =
    let all : List ℕ = (front ++ (e.main.block + i) ∷ []) ++ (e.reserve.block + i) ∷ [] in
    sym (append-nil all) ∙ ap (λ xs. all ++ flat_map (pair_at e) xs) (sym (none_after T e i (n - (i + 1)) g)) ∙ pairs_step T e front i n x h r eq
