-- Words of `--only`, and what they stand for.
use Rattle.std.proofs.Common.{◌≡◌, ◌+◌, ◌≤◌, refl, sym, ◌∙◌, ap, arith, length, ℕ, zero, suc, Bool, true, false, List, [], ◌∷◌, ◌++◌, Option, Some, None, take}
use Rattle.std.specs.Prelude.{◌||◌, flat_map, is_some, slice_get}
use Rattle.std.specs.List.{list_any}
use Rattle.udfs_walk.specs.NodeFields.{NodeFields}
use Rattle.udfs_salvage.specs.InLine.{IsFirstOf, names_nothing}

or_right : (a b : Bool) → b ≡ true → (a || b) ≡ true
or_right true b h = refl
or_right false b h = h

-- where one is so, some is
any_at : (p : List ℕ → Bool) (words : List (List ℕ)) (k : ℕ) (w : List ℕ) → slice_get words k ≡ Some w → p w ≡ true → list_any p words ≡ true
any_at p [] k w at is = let bad : None ≡ Some w = at in absurd (let z : ⊥ = cc in z)
any_at p (v ∷ words) zero w at is = let same : v ≡ w = cc in ap (λ b. b || list_any p words) (ap p same ∙ is)
any_at p (v ∷ words) (suc k) w at is = or_right (p v) (list_any p words) (any_at p words k w at is)

-- where none is so, none is
none_any : (p : List ℕ → Bool) (words : List (List ℕ)) → ((k : ℕ) (w : List ℕ) → slice_get words k ≡ Some w → p w ≡ false) → list_any p words ≡ false
none_any p [] none = refl
none_any p (v ∷ words) none = ap (λ b. b || list_any p words) (none zero v refl) ∙ none_any p words (λ k w at. none (suc k) w at)

-- a first word that names nothing is found exactly if some word does
pub is_some_nowhere : (words : List (List ℕ)) (nodes : List NodeFields) (first : Option ℕ) → IsFirstOf words nodes first → is_some first ≡ list_any (names_nothing nodes) words
is_some_nowhere words nodes None all = sym (none_any (names_nothing nodes) words all)
is_some_nowhere words nodes (Some number) found = sym (any_at (names_nothing nodes) words found.index found.word found.stands found.nothing)

-- what one more word stands for
one_more : (f : List ℕ → List (List ℕ)) (words : List (List ℕ)) (k : ℕ) (w : List ℕ) → slice_get words k ≡ Some w → flat_map f (take (suc k) words) ≡ flat_map f (take k words) ++ f w
one_more f [] k w at = let bad : None ≡ Some w = at in absurd (let z : ⊥ = cc in z)
one_more f (v ∷ words) zero w at = let same : v ≡ w = cc in ap (λ (u : List ℕ). f u ++ []) same ∙ append_nothing (f w)
  where
    append_nothing : (xs : List (List ℕ)) → xs ++ [] ≡ xs
    append_nothing [] = refl
    append_nothing (x ∷ xs) = ap (λ ys. x ∷ ys) (append_nothing xs)
one_more f (v ∷ words) (suc k) w at = ap (λ (more : List (List ℕ)). f v ++ more) (one_more f words k w at) ∙ joined (f v) (flat_map f (take k words)) (f w)
  where
    joined : (xs ys zs : List (List ℕ)) → xs ++ (ys ++ zs) ≡ (xs ++ ys) ++ zs
    joined [] ys zs = refl
    joined (x ∷ xs) ys zs = ap (λ more. x ∷ more) (joined xs ys zs)

-- with it come the paths that it stands for
pub added_paths : (f : List ℕ → List (List ℕ)) (words : List (List ℕ)) (k : ℕ) (w v : List ℕ) (new old : List (List ℕ)) → new ≡ old ++ f v → old ≡ flat_map f (take k words)
    → slice_get words k ≡ Some w → v ≡ w → new ≡ flat_map f (take (k + 1) words)
added_paths f words k w v new old added before at same =
    added ∙ ap (λ (paths : List (List ℕ)). paths ++ f v) before ∙ ap (λ (u : List ℕ). flat_map f (take k words) ++ f u) same ∙ sym (one_more f words k w at)
    ∙ ap (λ (n : ℕ). flat_map f (take n words)) (let next : suc k ≡ k + 1 = omega arith in next)

-- as many as there are, or more, are all
pub all_of : (words : List (List ℕ)) (n : ℕ) → length words ≤ n → take n words ≡ words
all_of [] zero most = refl
all_of [] (suc n) most = refl
all_of (w ∷ words) zero most = absurd (omega (arith, most))
all_of (w ∷ words) (suc n) most = ap (λ ws. w ∷ ws) (all_of words n (omega (arith, most)))
