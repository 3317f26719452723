-- That x is one of xs, said by the structure of xs, for proofs that go by it. Definitions say it by place, as the standard library's `Contains`.
use Rattle.std.specs.Prelude.{zero, suc, Contains, ◌⊎◌, ◌↔◌}
use Rattle.std.proofs.Common.{◌≡◌, ℕ, ◌<◌, List, [], ◌∷◌, length, inl, inr, refl, arith, get_or}

-- x is one of xs
abbrev pub Includes : {A : Type 0} → List A → A → Type 0
Includes [] x = ⊥
Includes (y ∷ ys) x = (y ≡ x) ⊎ Includes ys x

included_at : {A : Type 0} (xs : List A) (k : ℕ) (x : A) → k < length xs → get_or xs k x ≡ x → Includes xs x
included_at [] k x h e = absurd (let z : ⊥ = omega (arith, h) in z)
included_at (y ∷ ys) zero x h e = inl e
included_at (y ∷ ys) (suc k) x h e = inr (included_at ys k x (omega (arith, h)) e)

pub included : {A : Type 0} (xs : List A) (x : A) → Contains xs x → Includes xs x
included xs x h = included_at xs h.0 x h.1 h.2

pub contained : {A : Type 0} (xs : List A) (x : A) → Includes xs x → Contains xs x
contained [] x i = absurd i
contained (y ∷ ys) x (inl e) = (0, omega arith, e)
contained (y ∷ ys) x (inr i) = let r = contained ys x i in (suc r.0, omega (arith, r.1), r.2)

-- the first is contained
pub here : {A : Type 0} (x : A) (xs : List A) → Contains (x ∷ xs) x
here x xs = (0, omega arith, refl)

-- and what the rest contains
pub there : {A : Type 0} (y : A) (xs : List A) (x : A) → Contains xs x → Contains (y ∷ xs) x
there y xs x h = (suc h.0, omega (arith, h.1), h.2)

-- nothing else is
pub here_or_there : {A : Type 0} (y : A) (xs : List A) (x : A) → Contains (y ∷ xs) x → (y ≡ x) ⊎ Contains xs x
here_or_there y xs x h = go (included (y ∷ xs) x h)
  where
    go : (y ≡ x) ⊎ Includes xs x → (y ≡ x) ⊎ Contains xs x
    go (inl e) = inl e
    go (inr i) = inr (contained xs x i)

pub in_nothing : {A B : Type 0} (x : A) → Contains {X = A} [] x → B
in_nothing x h = absurd (included [] x h)

-- what two lists contain alike they include alike
pub contained_alike : {A : Type 0} (xs ys : List A) (x : A) → Includes xs x ↔ Includes ys x → Contains xs x ↔ Contains ys x
contained_alike xs ys x h = (λ c. contained ys x (h.0 (included xs x c)), λ c. contained xs x (h.1 (included ys x c)))
