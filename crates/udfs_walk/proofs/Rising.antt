-- Ascending lists: sorted numbers, each once, are the only ones of their numbers.
use Rattle.std.proofs.Common.{◌≡◌, refl, sym, ◌∙◌, ap, subst, inl, inr, ℕ, ◌+◌, ◌<◌, List, [], ◌∷◌, arith}
use Rattle.std.specs.Prelude.{suc, slice_index, Contains}
use Rattle.std.specs.List.Sorted.{IsStrictlyIncreasing}
use Rattle.udfs_lattice.specs.Volumes.{ascending}
use Rattle.udfs_lattice.proofs.Inclusion.{Includes, included, contained, in_nothing}
use Rattle.udfs_lattice.proofs.PublicLaws.{ascending_includes}
use Rattle.udfs_volume.specs.Seen.{IsRising}
use Rattle.udfs_volume.proofs.PublicLaws.{ascending_rises}

-- ---- a rising list is told by its numbers
rest_in : (x : ℕ) (xs ys : List ℕ) → IsRising (x ∷ xs) → ((n : ℕ) → Includes (x ∷ xs) n → Includes (x ∷ ys) n) → (n : ℕ) → Includes xs n → Includes ys n
rest_in x xs ys r h n i = go (h n (inr i))
  where
    go : Includes (x ∷ ys) n → Includes ys n
    go (inl e) = absurd (let lt : x < n = r.0 n (contained xs n i) in let z : ⊥ = omega (arith, lt, e) in z)
    go (inr j) = j

heads : (x y : ℕ) (xs ys : List ℕ) → IsRising (x ∷ xs) → IsRising (y ∷ ys) → Includes (y ∷ ys) x → Includes (x ∷ xs) y → x ≡ y
heads x y xs ys r s (inl e) j = sym e
heads x y xs ys r s (inr i) (inl e) = e
heads x y xs ys r s (inr i) (inr j) = absurd (let a : y < x = s.0 x (contained ys x i) in let b : x < y = r.0 y (contained xs y j) in let z : ⊥ = omega (arith, a, b) in z)

pub rising_same : (xs ys : List ℕ) → IsRising xs → IsRising ys → ((n : ℕ) → Includes xs n → Includes ys n) → ((n : ℕ) → Includes ys n → Includes xs n) → xs ≡ ys
rising_same [] [] r s f g = refl
rising_same [] (y ∷ ys) r s f g = absurd (g y (inl refl))
rising_same (x ∷ xs) [] r s f g = absurd (f x (inl refl))
rising_same (x ∷ xs) (y ∷ ys) r s f g = go (heads x y xs ys r s (f x (inl refl)) (g y (inl refl))) (λ r s f g. rising_same xs ys r s f g)
  where
    go : x ≡ y → (IsRising xs → IsRising ys → ((n : ℕ) → Includes xs n → Includes ys n) → ((n : ℕ) → Includes ys n → Includes xs n) → xs ≡ ys) → x ∷ xs ≡ y ∷ ys
    go e ih =
        let s' : IsRising (x ∷ ys) = subst (λ z. IsRising (z ∷ ys)) (sym e) s in
        let f' : (n : ℕ) → Includes (x ∷ xs) n → Includes (x ∷ ys) n = λ n i. subst (λ z. Includes (z ∷ ys) n) (sym e) (f n i) in
        let g' : (n : ℕ) → Includes (x ∷ ys) n → Includes (x ∷ xs) n = λ n i. g n (subst (λ z. Includes (z ∷ ys) n) e i) in
        let t : xs ≡ ys = ih r.1 s'.1 (rest_in x xs ys r f') (rest_in x ys xs s' g') in
        ap (λ z. z ∷ xs) e ∙ ap (λ l. y ∷ l) t

-- ---- strictly increasing lists rise
below_all : (x y : ℕ) (ys : List ℕ) → x < y → IsRising (y ∷ ys) → (m : ℕ) → Includes (y ∷ ys) m → x < m
below_all x y ys h r m (inl e) = subst (λ z. x < z) e h
below_all x y ys h r m (inr i) = let later : y < m = r.0 m (contained ys m i) in omega (arith, h, later)

pub increasing_rises : (xs : List ℕ) → IsStrictlyIncreasing xs → IsRising xs
increasing_rises [] h = tt
increasing_rises (x ∷ []) h = (λ m i. in_nothing m i, tt)
increasing_rises (x ∷ y ∷ ys) h =
    let r : IsRising (y ∷ ys) = increasing_rises (y ∷ ys) (λ k p. subst (λ z. slice_index (y ∷ ys) k < slice_index (x ∷ y ∷ ys) z) (let e : suc k + 1 ≡ suc (k + 1) = omega arith in e) (h (suc k) (omega (arith, p)))) in
    (λ m i. below_all x y ys (h 0 (omega arith)) r m (included (y ∷ ys) m i), r)

-- a strictly increasing list of the same numbers
pub increasing_is : (xs ys : List ℕ) → IsStrictlyIncreasing ys → ((n : ℕ) → Contains xs n → Contains ys n) → ((n : ℕ) → Contains ys n → Contains xs n) → ys ≡ ascending xs
increasing_is xs ys up f g = rising_same ys (ascending xs) (increasing_rises ys up) (ascending_rises xs)
    (λ n i. (ascending_includes xs n).1 (included xs n (g n (contained ys n i))))
    (λ n i. included ys n (f n (contained xs n ((ascending_includes xs n).0 i))))
