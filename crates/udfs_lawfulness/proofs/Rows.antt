-- Loops over rows of numbers.
use Rattle.std.proofs.Common.{◌≡◌, sym, ◌∙◌, ap, ℕ, ◌+◌, ◌-◌, ◌<◌, Bool, true, false, List, [], ◌∷◌, ◌++◌, arith, append_assoc, Option, Some, None}
use Rattle.std.specs.Prelude.{suc, ◌&&◌, flat_map}
use Rattle.std.specs.List.{list_all, range_with_len}
use Rattle.std.proofs.lemmas.List.Concat.{flat_map-cons}
use Rattle.udfs_volume.specs.Sequence.{or_else}
use Rattle.udfs_lawfulness.specs.Searching.{first_some}

pub unroll : (i n : ℕ) → i < n → range_with_len i (n - i) ≡ i ∷ range_with_len (i + 1) (n - (i + 1))
unroll i n h = let e : n - i ≡ suc (n - (i + 1)) = omega (arith, h) in ap (range_with_len i) e

-- the next number stands before those after it
pub row_step : (front : List ℕ) (i n : ℕ) (x : List ℕ) → i < n → front ++ range_with_len i (n - i) ≡ x → (front ++ i ∷ []) ++ range_with_len (i + 1) (n - (i + 1)) ≡ x
row_step front i n x h e = append_assoc front (i ∷ []) (range_with_len (i + 1) (n - (i + 1))) ∙ ap (λ xs. front ++ xs) (sym (unroll i n h)) ∙ e

-- the first number gives an answer
pub first_here : {A : Type 0} (f : ℕ → Option A) (i n : ℕ) (x : A) → i < n → f i ≡ Some x → first_some f (range_with_len i (n - i)) ≡ Some x
first_here f i n x h e = ap (first_some f) (unroll i n h) ∙ ap (λ o. or_else o (first_some f (range_with_len (i + 1) (n - (i + 1))))) e

-- it does not
pub first_skip : {A : Type 0} (f : ℕ → Option A) (i n : ℕ) → i < n → f i ≡ None → first_some f (range_with_len (i + 1) (n - (i + 1))) ≡ first_some f (range_with_len i (n - i))
first_skip f i n h e = sym (ap (first_some f) (unroll i n h) ∙ ap (λ o. or_else o (first_some f (range_with_len (i + 1) (n - (i + 1))))) e)

-- the first number passes
pub all_next : (f : ℕ → Bool) (i n : ℕ) → i < n → f i ≡ true → list_all f (range_with_len (i + 1) (n - (i + 1))) ≡ list_all f (range_with_len i (n - i))
all_next f i n h e = sym (ap (list_all f) (unroll i n h) ∙ ap (λ b. b && list_all f (range_with_len (i + 1) (n - (i + 1)))) e)

-- it does not
pub all_stop : (f : ℕ → Bool) (i n : ℕ) → i < n → f i ≡ false → list_all f (range_with_len i (n - i)) ≡ false
all_stop f i n h e = ap (list_all f) (unroll i n h) ∙ ap (λ b. b && list_all f (range_with_len (i + 1) (n - (i + 1)))) e

-- what the first number gives stands before what those after it give
pub flat_step : (f : ℕ → List ℕ) (front new : List ℕ) (i n : ℕ) (x : List ℕ) → i < n → new ≡ f i → front ++ flat_map f (range_with_len i (n - i)) ≡ x
    → (front ++ new) ++ flat_map f (range_with_len (i + 1) (n - (i + 1))) ≡ x
flat_step f front new i n x h t e = let rest : List ℕ = flat_map f (range_with_len (i + 1) (n - (i + 1))) in
    append_assoc front new rest ∙ ap (λ xs. front ++ (xs ++ rest)) t
    ∙ ap (λ xs. front ++ xs) (sym (flat_map-cons f i (range_with_len (i + 1) (n - (i + 1))))) ∙ ap (λ xs. front ++ flat_map f xs) (sym (unroll i n h)) ∙ e
