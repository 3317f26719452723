-- A path, and what it is without the `/`s at its end.
use Rattle.std.proofs.Common.{◌≡◌, ◌≢◌, ◌==◌, ◌++◌, ◌+◌, ◌<◌, ◌∙◌, arith, length, length-append, ℕ, Bool, true, false, List, [], ◌∷◌, ap, refl, cond}
use Rattle.std.proofs.lemmas.Bool.{eqb-true}
use Rattle.udfs_extraction.specs.BarePaths.{before, trimmed}

-- a path that ends with one more
pub with_more : (front : List ℕ) → trimmed (front ++ 47 ∷ []) ≡ trimmed front
with_more [] = refl
with_more (c ∷ front) = ap (before c) (with_more front)

-- and one that does not
pub with_none : (text : List ℕ) → ((front : List ℕ) → text ≢ front ++ 47 ∷ []) → trimmed text ≡ text
with_none [] none = refl
with_none (c ∷ []) none = go (c == 47) refl
  where
    go : (b : Bool) → (c == 47) ≡ b → cond b [] (c ∷ []) ≡ c ∷ []
    go true e = absurd (none [] (ap (λ (k : ℕ). k ∷ []) (eqb-true c 47 e)))
    go false e = refl
with_none (c ∷ d ∷ text) none = ap (before c) (with_none (d ∷ text) (λ front e. none (c ∷ front) (ap (λ l. c ∷ l) e)))

pub shorter : (text front : List ℕ) → text ≡ front ++ 47 ∷ [] → length front < length text
shorter text front e = let n : length text ≡ length front + 1 = ap length e ∙ length-append front (47 ∷ []) in omega arith
