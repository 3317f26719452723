-- Names that are begun.
use Rattle.std.proofs.Common.{◌≡◌, ◌∙◌, refl, ℕ, List, [], ◌∷◌, ◌++◌, append_assoc, ap, sym, map}
use Rattle.std.specs.Prelude.{◌==◌, Bool, true, false, if◌then◌else◌}
use Rattle.udfs_words.specs.Globs.{before, names_in}

-- characters before the first of some names
abbrev pub joined : List ℕ → List (List ℕ) → List (List ℕ)
joined begun [] = begun ∷ []
joined begun (n ∷ names) = (begun ++ n) ∷ names

-- one more character of a name that is begun
pub joined_more : (begun : List ℕ) (c : ℕ) (names : List (List ℕ)) → joined begun (before c names) ≡ joined (begun ++ c ∷ []) names
joined_more begun c [] = refl
joined_more begun c (n ∷ names) = ap (λ x. x ∷ names) (sym (append_assoc begun (c ∷ []) n))

-- where none is begun, they are the names
pub joined_none : (text : List ℕ) → joined [] (names_in text) ≡ names_in text
joined_none [] = refl
joined_none (c ∷ text) = by (c == 47) (names_in text)
  where
    with_one : (names : List (List ℕ)) → joined [] (before c names) ≡ before c names
    with_one [] = refl
    with_one (n ∷ names) = refl

    by : (b : Bool) (names : List (List ℕ)) → joined [] (if b then [] ∷ names else before c names) ≡ (if b then [] ∷ names else before c names)
    by true names = refl
    by false names = with_one names

append_none : {A : Type 0} (xs : List A) → xs ++ [] ≡ xs
append_none [] = refl
append_none (x ∷ xs) = ap (λ ys. x ∷ ys) (append_none xs)

-- a name that ends at a slash
pub name_ends : {V : Type 0} (f : V → List ℕ) (names : List V) (name : V) (others : List ℕ)
    → map f (names ++ name ∷ []) ++ joined [] (names_in others) ≡ map f names ++ joined (f name) ([] ∷ names_in others)
name_ends f [] name others = ap (λ ns. f name ∷ ns) (joined_none others) ∙ ap (λ n. n ∷ names_in others) (sym (append_none (f name)))
name_ends f (n ∷ names) name others = ap (λ ns. f n ∷ ns) (name_ends f names name others)
