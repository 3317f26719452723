-- What is in a list: lists put together, beginnings of lists, lists that ascend.
use Rattle.std.proofs.Common.{◌≡◌, refl, sym, ◌∙◌, ap, subst, inl, inr, ◌⊎◌, ℕ, ◌+◌, ◌<◌, ◌≤◌, List, [], ◌∷◌, ◌++◌, length, take, arith, Some, None, slice_get, get_or}
use Rattle.std.specs.Prelude.{zero, suc, ⊤, AllPairs, Contains}
use Rattle.udfs_lattice.proofs.Inclusion.{Includes, included, contained}

pub in_front : {A : Type 0} (xs ys : List A) (x : A) → Includes xs x → Includes (xs ++ ys) x
in_front [] ys x i = absurd i
in_front (z ∷ xs) ys x (inl e) = inl e
in_front (z ∷ xs) ys x (inr i) = inr (in_front xs ys x i)

pub in_back : {A : Type 0} (xs ys : List A) (x : A) → Includes ys x → Includes (xs ++ ys) x
in_back [] ys x i = i
in_back (z ∷ xs) ys x i = inr (in_back xs ys x i)

pub in_either : {A : Type 0} (xs ys : List A) (x : A) → Includes (xs ++ ys) x → Includes xs x ⊎ Includes ys x
in_either [] ys x i = inr i
in_either (z ∷ xs) ys x (inl e) = inl (inl e)
in_either {A} (z ∷ xs) ys x (inr i) = go (in_either xs ys x i)
  where
    go : Includes xs x ⊎ Includes ys x → Includes (z ∷ xs) x ⊎ Includes ys x
    go (inl j) = inl (inr j)
    go (inr j) = inr j

pub in_one : {A : Type 0} (y x : A) → Includes (y ∷ []) x → y ≡ x
in_one y x (inl e) = e
in_one y x (inr i) = absurd i

pub in_last : {A : Type 0} (xs : List A) (x : A) → Includes (xs ++ x ∷ []) x
in_last xs x = in_back xs (x ∷ []) x (inl refl)

-- it is in the front, or the last one
pub front_or_last : {A : Type 0} (xs : List A) (y x : A) → Includes (xs ++ y ∷ []) x → Includes xs x ⊎ (y ≡ x)
front_or_last {A} xs y x i = go (in_either xs (y ∷ []) x i)
  where
    go : Includes xs x ⊎ Includes (y ∷ []) x → Includes xs x ⊎ (y ≡ x)
    go (inl j) = inl j
    go (inr j) = inr (in_one y x j)

pub get_in : {A : Type 0} (xs : List A) (k : ℕ) (x : A) → slice_get xs k ≡ Some x → Includes xs x
get_in [] k x e = absurd (let z : ⊥ = cc in z)
get_in (y ∷ ys) zero x e = inl cc
get_in (y ∷ ys) (suc k) x e = inr (get_in ys k x e)

pub get_or_in : {A : Type 0} (xs : List A) (k : ℕ) (d : A) → k < length xs → Includes xs (get_or xs k d)
get_or_in [] k d h = absurd (let z : ⊥ = omega (arith, h) in z)
get_or_in (y ∷ ys) zero d h = inl refl
get_or_in (y ∷ ys) (suc k) d h = inr (get_or_in ys k d (omega (arith, h)))

-- what is found behind the front is in the back
pub get_behind : {A : Type 0} (xs ys : List A) (k : ℕ) (x : A) → length xs ≤ k → slice_get (xs ++ ys) k ≡ Some x → Includes ys x
get_behind [] ys k x h e = get_in ys k x e
get_behind (z ∷ xs) ys zero x h e = absurd (let w : ⊥ = omega (arith, h) in w)
get_behind (z ∷ xs) ys (suc k) x h e = get_behind xs ys k x (omega (arith, h)) e

-- ---- beginnings
pub take_front : {A : Type 0} (xs ys : List A) → take (length xs) (xs ++ ys) ≡ xs
take_front [] ys = refl
take_front (x ∷ xs) ys = ap (λ z. x ∷ z) (take_front xs ys)

pub take_one_more : {A : Type 0} (xs ys : List A) (k : ℕ) (x : A) → slice_get xs k ≡ Some x → take (k + 1) (xs ++ ys) ≡ take k xs ++ x ∷ []
take_one_more {A} xs ys k x e = ap (λ n. take n (xs ++ ys)) (let z : k + 1 ≡ suc k = omega arith in z) ∙ go xs k e
  where
    go : (xs : List A) (k : ℕ) → slice_get xs k ≡ Some x → take (suc k) (xs ++ ys) ≡ take k xs ++ x ∷ []
    go [] k e = absurd (let z : ⊥ = cc in z)
    go (z ∷ zs) zero e = ap (λ w. w ∷ []) (let s : z ≡ x = cc in s)
    go (z ∷ zs) (suc k) e = ap (λ w. z ∷ w) (go zs k e)

pub take_past : {A : Type 0} (xs : List A) (k : ℕ) → slice_get xs k ≡ None → take k xs ≡ xs
take_past [] zero e = refl
take_past [] (suc k) e = refl
take_past (x ∷ xs) zero e = absurd (let z : ⊥ = cc in z)
take_past (x ∷ xs) (suc k) e = ap (λ z. x ∷ z) (take_past xs k e)

pub take_whole : {A : Type 0} (xs : List A) (k : ℕ) → length xs ≤ k → take k xs ≡ xs
take_whole [] zero h = refl
take_whole [] (suc k) h = refl
take_whole (x ∷ xs) zero h = absurd (let z : ⊥ = omega (arith, h) in z)
take_whole (x ∷ xs) (suc k) h = ap (λ z. x ∷ z) (take_whole xs k (omega (arith, h)))

pub take_next : {A : Type 0} (xs : List A) (k : ℕ) (x : A) → k < length xs → x ≡ get_or xs k x → take (k + 1) xs ≡ take k xs ++ x ∷ []
take_next [] k x h e = absurd (let z : ⊥ = omega (arith, h) in z)
take_next (y ∷ ys) zero x h e = ap (λ z. z ∷ []) (sym e)
take_next (y ∷ ys) (suc k) x h e = ap (λ n. take n (y ∷ ys)) (let z : suc k + 1 ≡ suc (k + 1) = omega arith in z) ∙ ap (λ l. y ∷ l) (take_next ys k x (omega (arith, h)) e)

pub take_in : {A : Type 0} (xs : List A) (k : ℕ) (x : A) → Includes (take k xs) x → Includes xs x
take_in [] zero x i = absurd i
take_in [] (suc k) x i = absurd i
take_in (y ∷ ys) zero x i = absurd i
take_in (y ∷ ys) (suc k) x (inl e) = inl e
take_in (y ∷ ys) (suc k) x (inr i) = inr (take_in ys k x i)

-- what is among the first k has a place below k
pub take_place : {A : Type 0} (xs : List A) (k : ℕ) (x : A) → Includes (take k xs) x → (j : ℕ) × (j < k) × (j < length xs) × (get_or xs j x ≡ x)
take_place [] zero x i = absurd i
take_place [] (suc k) x i = absurd i
take_place (y ∷ ys) zero x i = absurd i
take_place (y ∷ ys) (suc k) x (inl e) = (0, omega arith, omega arith, e)
take_place (y ∷ ys) (suc k) x (inr i) = let t = take_place ys k x i in (suc t.0, omega (arith, t.1), omega (arith, t.2), t.3)

-- and what has such a place is among them
pub place_take : {A : Type 0} (xs : List A) (k j : ℕ) (x : A) → j < k → j < length xs → get_or xs j x ≡ x → Includes (take k xs) x
place_take [] k j x h l e = absurd (let z : ⊥ = omega (arith, l) in z)
place_take (y ∷ ys) zero j x h l e = absurd (let z : ⊥ = omega (arith, h) in z)
place_take (y ∷ ys) (suc k) zero x h l e = inl e
place_take (y ∷ ys) (suc k) (suc j) x h l e = inr (place_take ys k j x (omega (arith, h)) (omega (arith, l)) e)

pub get_same : {A : Type 0} (xs : List A) (k : ℕ) (x d : A) → k < length xs → get_or xs k x ≡ x → get_or xs k d ≡ x
get_same [] k x d h e = absurd (let z : ⊥ = omega (arith, h) in z)
get_same (y ∷ ys) zero x d h e = e
get_same (y ∷ ys) (suc k) x d h e = get_same ys k x d (omega (arith, h)) e

-- the place alone says which it is
pub get_default : {A : Type 0} (xs : List A) (k : ℕ) (d e : A) → k < length xs → get_or xs k d ≡ get_or xs k e
get_default [] k d e h = absurd (let z : ⊥ = omega (arith, h) in z)
get_default (y ∷ ys) zero d e h = refl
get_default (y ∷ ys) (suc k) d e h = get_default ys k d e (omega (arith, h))

pub item_in : {A : Type 0} (xs : List A) (k : ℕ) (d : A) → k < length xs → Contains xs (get_or xs k d)
item_in xs k d h = contained xs (get_or xs k d) (get_or_in xs k d h)

pub no_items : {A : Type 0} (xs : List A) → length xs ≡ 0 → xs ≡ []
no_items [] e = refl
no_items (x ∷ xs) e = absurd (let z : ⊥ = omega (arith, e) in z)

-- what is in the rest was in the whole
pub popped : {A : Type 0} (left less : List A) (y x : A) → left ≡ less ++ y ∷ [] → Contains less x → Contains left x
popped left less y x e c = contained left x (subst (λ z. Includes z x) (sym e) (in_front less (y ∷ []) x (included less x c)))

-- what was taken from the end was in the whole
pub last_in : {A : Type 0} (left less : List A) (y : A) → left ≡ less ++ y ∷ [] → Contains left y
last_in left less y e = contained left y (subst (λ z. Includes z y) (sym e) (in_last less y))

-- ---- each is so to each later one
abbrev pub Rises : {A : Type 0} → (A → A → Type 0) → List A → Type 0
Rises R [] = ⊤
Rises {A} R (x ∷ xs) = ((y : A) → Includes xs y → R x y) × Rises R xs

pub rises_pairs : {A : Type 0} (R : A → A → Type 0) (xs : List A) → Rises R xs → AllPairs R xs
rises_pairs R [] h i j d p q = absurd (let z : ⊥ = omega (arith, q) in z)
rises_pairs R (x ∷ xs) h zero zero d p q = absurd (let z : ⊥ = omega (arith, p) in z)
rises_pairs R (x ∷ xs) h zero (suc j) d p q = h.0 (get_or xs j d) (get_or_in xs j d (omega (arith, q)))
rises_pairs R (x ∷ xs) h (suc i) zero d p q = absurd (let z : ⊥ = omega (arith, p) in z)
rises_pairs R (x ∷ xs) h (suc i) (suc j) d p q = rises_pairs R xs h.1 i j d (omega (arith, p)) (omega (arith, q))

pub pairs_rises : {A : Type 0} (R : A → A → Type 0) (xs : List A) → AllPairs R xs → Rises R xs
pairs_rises R [] h = tt
pairs_rises {A} R (x ∷ xs) h = (first, pairs_rises R xs (λ i j d p q. h (suc i) (suc j) d (omega (arith, p)) (omega (arith, q))))
  where
    first : (y : A) → Includes xs y → R x y
    first y i = let c : Contains xs y = contained xs y i in subst (R x) c.2 (h 0 (suc c.0) y (omega arith) (omega (arith, c.1)))

pub rises_snoc : {A : Type 0} (R : A → A → Type 0) (xs : List A) (y : A) → Rises R xs → ((x : A) → Includes xs x → R x y) → Rises R (xs ++ y ∷ [])
rises_snoc R [] y h r = ((λ z i. absurd i), tt)
rises_snoc {A} R (x ∷ xs) y h r = (first, rises_snoc R xs y h.1 (λ z i. r z (inr i)))
  where
    first : (z : A) → Includes (xs ++ y ∷ []) z → R x z
    first z i = go (front_or_last xs y z i)
      where
        go : Includes xs z ⊎ (y ≡ z) → R x z
        go (inl j) = h.0 z j
        go (inr e) = subst (R x) e (r x (inl refl))

-- each in the front is so to each in the back
pub rises_across : {A : Type 0} (R : A → A → Type 0) (xs ys : List A) (x y : A) → Rises R (xs ++ ys) → Includes xs x → Includes ys y → R x y
rises_across R [] ys x y h i j = absurd i
rises_across R (z ∷ xs) ys x y h (inl e) j = subst (λ w. R w y) e (h.0 y (in_back xs ys y j))
rises_across R (z ∷ xs) ys x y h (inr i) j = rises_across R xs ys x y h.1 i j

pub rises_back : {A : Type 0} (R : A → A → Type 0) (xs ys : List A) → Rises R (xs ++ ys) → Rises R ys
rises_back R [] ys h = h
rises_back R (z ∷ xs) ys h = rises_back R xs ys h.1
