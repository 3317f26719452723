-- What is found first in a list, and what it is where nothing is found.
use Rattle.std.proofs.Common.{◌≡◌, refl, sym, ◌∙◌, ap, inl, inr, ℕ, ◌+◌, ◌<◌, ◌≤◌, Bool, true, false, cond, ◌&&◌, ◌||◌, List, [], ◌∷◌, ◌++◌, filter, arith, Option, Some, None}
use Rattle.std.specs.Prelude.{zero, suc, ◌⊎◌, find, flat_map, option_map}
use Rattle.std.specs.List.{list_all, list_any, range_with_len}
use Rattle.std.proofs.lemmas.List.Concat.{flat_map-cons}
use Rattle.udfs_lattice.proofs.Inclusion.{Includes}
use Rattle.udfs_volume.specs.Sequence.{or_else}
use Rattle.udfs_lawfulness.specs.Searching.{first_some}

pub found_in : {A : Type 0} (f : A → Bool) (xs : List A) (x : A) → find f xs ≡ Some x → Includes xs x × (f x ≡ true)
found_in f [] x e = absurd (let z : ⊥ = cc in z)
found_in {A} f (y ∷ ys) x e = go (f y) refl (found_in f ys x) e
  where
    go : (b : Bool) → f y ≡ b → (find f ys ≡ Some x → Includes ys x × (f x ≡ true)) → cond b (Some y) (find f ys) ≡ Some x → Includes (y ∷ ys) x × (f x ≡ true)
    go true q later p = let is : y ≡ x = cc in (inl is, ap f (sym is) ∙ q)
    go false q later p = let r : Includes ys x × (f x ≡ true) = later p in (inr r.0, r.1)

pub none_found : {A : Type 0} (f : A → Bool) (xs : List A) → find f xs ≡ None → (x : A) → Includes xs x → f x ≡ false
none_found f [] e x i = absurd i
none_found {A} f (y ∷ ys) e x i = go (f y) refl (none_found f ys) e i
  where
    go : (b : Bool) → f y ≡ b → (find f ys ≡ None → (z : A) → Includes ys z → f z ≡ false) → cond b (Some y) (find f ys) ≡ None → Includes (y ∷ ys) x → f x ≡ false
    go true q later p j = absurd (let z : ⊥ = cc in z)
    go false q later p (inl s) = ap f (sym s) ∙ q
    go false q later p (inr j) = later p x j

pub map_none : {A B : Type 0} (f : A → B) (o : Option A) → option_map f o ≡ None → o ≡ None
map_none f None e = refl
map_none f (Some x) e = absurd (let z : ⊥ = cc in z)

pub map_some : {A B : Type 0} (f : A → B) (o : Option A) (y : B) → option_map f o ≡ Some y → (x : A) × (o ≡ Some x) × (f x ≡ y)
map_some f None y e = absurd (let z : ⊥ = cc in z)
map_some f (Some x) y e = let is : f x ≡ y = cc in (x, refl, is)

pub else_none : {A : Type 0} (o p : Option A) → or_else o p ≡ None → (o ≡ None) × (p ≡ None)
else_none None p e = (refl, e)
else_none (Some x) p e = absurd (let z : ⊥ = cc in z)

-- the first of two is the first, or the second one
pub data OfWhich {A : Type 0} (o p : Option A) (x : A) : Type 0 where
  of_first : o ≡ Some x → OfWhich o p x
  of_second : o ≡ None → p ≡ Some x → OfWhich o p x

pub else_some : {A : Type 0} (o p : Option A) (x : A) → or_else o p ≡ Some x → OfWhich o p x
else_some None p x e = of_second refl e
else_some (Some y) p x e = of_first e

pub first_none : {A B : Type 0} (f : A → Option B) (xs : List A) → first_some f xs ≡ None → (x : A) → Includes xs x → f x ≡ None
first_none f [] e x i = absurd i
first_none {A} {B} f (y ∷ ys) e x i = go (else_none (f y) (first_some f ys) e) (first_none f ys) i
  where
    go : (f y ≡ None) × (first_some f ys ≡ None) → (first_some f ys ≡ None → (z : A) → Includes ys z → f z ≡ None) → Includes (y ∷ ys) x → f x ≡ None
    go (p, q) later (inl s) = ap f (sym s) ∙ p
    go (p, q) later (inr j) = later q x j

pub first_found : {A B : Type 0} (f : A → Option B) (xs : List A) (z : B) → first_some f xs ≡ Some z → (x : A) × Includes xs x × (f x ≡ Some z)
first_found f [] z e = absurd (let w : ⊥ = cc in w)
first_found {A} {B} f (y ∷ ys) z e = go (else_some (f y) (first_some f ys) z e) (first_found f ys z)
  where
    go : OfWhich (f y) (first_some f ys) z → (first_some f ys ≡ Some z → (x : A) × Includes ys x × (f x ≡ Some z)) → (x : A) × Includes (y ∷ ys) x × (f x ≡ Some z)
    go (of_first p) later = (y, inl refl, p)
    go (of_second p q) later = let r : (x : A) × Includes ys x × (f x ≡ Some z) = later q in (r.0, inr r.1, r.2)

-- ---- rows of numbers
pub none_at : (f : ℕ → Bool) (c n j : ℕ) → list_any f (range_with_len c n) ≡ false → c ≤ j → j < c + n → f j ≡ false
none_at f c zero j h l m = absurd (let z : ⊥ = omega (arith, l, m) in z)
none_at f c (suc n) j h l m = go (f c) refl (list_any f (range_with_len (c + 1) n)) refl h (λ e k. none_at f (c + 1) n j e k (omega (arith, m))) (here_or_later c j l)
  where
    here_or_later : (c j : ℕ) → c ≤ j → (c ≡ j) ⊎ (c + 1 ≤ j)
    here_or_later c j h = grind arith

    go : (a : Bool) → f c ≡ a → (b : Bool) → list_any f (range_with_len (c + 1) n) ≡ b → (a || b) ≡ false
        → (list_any f (range_with_len (c + 1) n) ≡ false → c + 1 ≤ j → f j ≡ false) → (c ≡ j) ⊎ (c + 1 ≤ j) → f j ≡ false
    go true p b q h later k = absurd (let z : ⊥ = cc in z)
    go false p true q h later k = absurd (let z : ⊥ = cc in z)
    go false p false q h later (inl e) = ap f (sym e) ∙ p
    go false p false q h later (inr k) = later q k

pub some_at : (f : ℕ → Bool) (c n j : ℕ) → c ≤ j → j < c + n → f j ≡ true → list_any f (range_with_len c n) ≡ true
some_at f c n j l m t = go (list_any f (range_with_len c n)) refl
  where
    go : (b : Bool) → list_any f (range_with_len c n) ≡ b → list_any f (range_with_len c n) ≡ true
    go true q = q
    go false q = absurd (let no : f j ≡ false = none_at f c n j q l m in let z : ⊥ = cc in z)

pub all_of : (f : ℕ → Bool) (c n : ℕ) → ((k : ℕ) → c ≤ k → k < c + n → f k ≡ true) → list_all f (range_with_len c n) ≡ true
all_of f c zero h = refl
all_of f c (suc n) h = λ i. h c (omega arith) (omega arith) i && all_of f (c + 1) n (λ k l m. h k (omega (arith, l)) (omega (arith, m))) i

pub filter_same : (f g : ℕ → Bool) (c n : ℕ) → ((k : ℕ) → c ≤ k → k < c + n → f k ≡ g k) → filter f (range_with_len c n) ≡ filter g (range_with_len c n)
filter_same f g c zero h = refl
filter_same f g c (suc n) h = λ i. cond (h c (omega arith) (omega arith) i) (c ∷ filter_same f g (c + 1) n (λ k l m. h k (omega (arith, l)) (omega (arith, m))) i)
    (filter_same f g (c + 1) n (λ k l m. h k (omega (arith, l)) (omega (arith, m))) i)

pub flat_same : (f g : ℕ → List ℕ) (c n : ℕ) → ((k : ℕ) → c ≤ k → k < c + n → f k ≡ g k) → flat_map f (range_with_len c n) ≡ flat_map g (range_with_len c n)
flat_same f g c zero h = refl
flat_same f g c (suc n) h = flat_map-cons f c (range_with_len (c + 1) n)
    ∙ (λ i. h c (omega arith) (omega arith) i ++ flat_same f g (c + 1) n (λ k l m. h k (omega (arith, l)) (omega (arith, m))) i)
    ∙ sym (flat_map-cons g c (range_with_len (c + 1) n))
