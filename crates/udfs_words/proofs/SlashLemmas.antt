-- A path, and what it is without the `/` at its end.
use Rattle.std.proofs.Common.{◌≡◌, ◌≢◌, ◌==◌, ◌++◌, ℕ, Bool, true, false, Bor, List, [], ◌∷◌, Option, None, Some, MatchOption, unwrap_or, ap, refl, sym, ◌∙◌, cond}
use Rattle.std.proofs.lemmas.Bool.{eqb-true}
use Rattle.udfs_words.specs.Asking.{without_slash}

-- a path that ends with it
with_slash : (front : List ℕ) → without_slash (front ++ 47 ∷ []) ≡ front
with_slash [] = refl
with_slash (c ∷ []) = refl
with_slash (c ∷ d ∷ front) = ap (λ l. c ∷ l) (with_slash (d ∷ front))

-- and one that does not
no_slash : (text : List ℕ) → ((front : List ℕ) → text ≢ front ++ 47 ∷ []) → without_slash text ≡ text
no_slash [] none = refl
no_slash (c ∷ []) none = go (c == 47) refl
  where
    go : (b : Bool) → (c == 47) ≡ b → cond b [] (c ∷ []) ≡ c ∷ []
    go true e = absurd (none [] (ap (λ (k : ℕ). k ∷ []) (eqb-true c 47 e)))
    go false e = refl
no_slash (c ∷ d ∷ text) none = ap (λ l. c ∷ l) (no_slash (d ∷ text) (λ front e. none (c ∷ front) (ap (λ l. c ∷ l) e)))

pub slash_stripped : (text : List ℕ) (rest : Option (Bor (List ℕ))) → MatchOption rest ((front : List ℕ) → text ≢ front ++ 47 ∷ []) (λ x. text ≡ x.now ++ 47 ∷ []) → (whole : Bor (List ℕ)) → whole.now ≡ text → (unwrap_or rest whole).now ≡ without_slash text
slash_stripped text None is whole same = same ∙ sym (no_slash text is)
slash_stripped text (Some x) is whole same = sym (with_slash x.now) ∙ ap without_slash (sym is)
