-- Paths that begin with the same names.
use Rattle.std.proofs.Common.{◌≡◌, refl, sym, ◌∙◌, ap, ℕ, ◌+◌, ◌-◌, List, [], ◌∷◌, ◌++◌, length, arith, Some, slice_get, get_or}
use Rattle.std.specs.Prelude.{suc, zero}
use Rattle.udfs_lawfulness.specs.Spelling.{BeginsWith, IsInside}

pub one_path : (p q : List (List ℕ)) → length p ≡ length q → BeginsWith p q → p ≡ q
one_path [] [] l s = refl
one_path [] (y ∷ ys) l s = absurd (let z : ⊥ = omega (arith, l) in z)
one_path (x ∷ xs) [] l s = absurd (let z : ⊥ = omega (arith, l) in z)
one_path (x ∷ xs) (y ∷ ys) l s =
    let first : Some x ≡ Some y = s 0 (omega arith) in
    let head : x ≡ y = cc in
    let tail : xs ≡ ys = one_path xs ys (omega (arith, l)) (λ i lt. s (suc i) (omega (arith, lt))) in
    (λ i. head i ∷ tail i)

pub begins : (p q : List (List ℕ)) → p ≡ q → BeginsWith p q
begins p q e i lt = ap (λ z. slice_get z i) e

-- ---- a folder's path and one name more
pub inside : (p f : List (List ℕ)) → length p ≡ length f + 1 → BeginsWith p f → IsInside p f
inside [] f l s = absurd (let z : ⊥ = omega (arith, l) in z)
inside (x ∷ []) [] l s = (x, refl)
inside (x ∷ y ∷ more) [] l s = absurd (let z : ⊥ = omega (arith, l) in z)
inside (x ∷ xs) (y ∷ ys) l s =
    let first : Some x ≡ Some y = s 0 (omega arith) in
    let head : x ≡ y = cc in
    let r : IsInside xs ys = inside xs ys (omega (arith, l)) (λ i lt. s (suc i) (omega (arith, lt))) in
    (r.0, λ i. head i ∷ r.1 i)

long : (f : List (List ℕ)) (name : List ℕ) → length (f ++ name ∷ []) ≡ length f + 1
long [] name = omega arith
long (x ∷ xs) name = let l : length (xs ++ name ∷ []) ≡ length xs + 1 = long xs name in omega (arith, l)

pub long_inside : (p f : List (List ℕ)) → IsInside p f → length p ≡ length f + 1
long_inside p f is = ap length is.1 ∙ long f is.0

front : (f : List (List ℕ)) (name : List ℕ) → BeginsWith (f ++ name ∷ []) f
front [] name i lt = absurd (let z : ⊥ = omega (arith, lt) in z)
front (x ∷ xs) name zero lt = refl
front (x ∷ xs) name (suc i) lt = front xs name i (omega (arith, lt))

pub begins_inside : (p f : List (List ℕ)) → IsInside p f → BeginsWith p f
begins_inside p f is i lt = ap (λ z. slice_get z i) is.1 ∙ front f is.0 i lt

-- its last name
behind : (f : List (List ℕ)) (name : List ℕ) → get_or (f ++ name ∷ []) (length f) [] ≡ name
behind [] name = refl
behind (x ∷ xs) name = behind xs name

pub last_inside : (p f : List (List ℕ)) (is : IsInside p f) → get_or p (length p - 1) [] ≡ is.0
last_inside p f is =
    let l : length p ≡ length f + 1 = long_inside p f is in
    let at : length p - 1 ≡ length f = omega (arith, l) in
    ap (λ k. get_or p k []) at ∙ ap (λ z. get_or z (length f) []) is.1 ∙ behind f is.0

-- one folder
pub one_front : (f g : List (List ℕ)) (a b : List ℕ) → f ++ a ∷ [] ≡ g ++ b ∷ [] → f ≡ g
one_front f g a b e =
    let l : length f + 1 ≡ length g + 1 = sym (long f a) ∙ ap length e ∙ long g b in
    one_path f g (omega (arith, l)) (λ i lt. sym (front f a i (omega (arith, l, lt))) ∙ ap (λ z. slice_get z i) e ∙ front g b i lt)
