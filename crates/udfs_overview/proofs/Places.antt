-- The places of a list each of whose elements is changed.
use Rattle.std.proofs.Common.{◌≡◌, refl, ap, ℕ, ◌<◌, List, [], ◌∷◌, length, map, drop, get_or, arith}
use Rattle.std.specs.Prelude.{zero, suc}
use Rattle.std.proofs.lemmas.List.{length-map}

pub full_length : {A B : Type 0} (f : A → B) (xs : List A) (i : ℕ) → i < length xs → i < length (map f xs)
full_length f xs i h = let e : length (map f xs) ≡ length xs = length-map xs f in omega (arith, e, h)

pub full_at : {A B : Type 0} (f : A → B) (xs : List A) (i : ℕ) (x : A) → i < length xs → x ≡ get_or xs i x → f x ≡ get_or (map f xs) i (f x)
full_at f [] i x h e = absurd (let z : ⊥ = omega (arith, h) in z)
full_at f (y ∷ ys) zero x h e = ap f e
full_at f (y ∷ ys) (suc i) x h e = full_at f ys i x (omega (arith, h)) e

-- those behind the first
pub behind_first : {A B : Type 0} (f : A → B) (xs : List A) → map f (drop 1 xs) ≡ drop 1 (map f xs)
behind_first f [] = refl
behind_first f (x ∷ xs) = refl
