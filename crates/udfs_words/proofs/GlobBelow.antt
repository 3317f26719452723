-- Whether one of some numbers is so, by the first of them and the others.
use Rattle.std.proofs.Common.{◌≡◌, ◌<◌, ◌∙◌, ◌-◌, ◌+◌, ap, sym, refl, arith, ℕ, zero, suc, Bool, true, false, List, [], ◌∷◌, map, take}
use Rattle.std.specs.Prelude.{◌||◌}
use Rattle.std.specs.List.{list_any, range_with_len}

any_step : (p : ℕ → Bool) (a n : ℕ) → a < n → list_any p (range_with_len a (n - a)) ≡ (p a || list_any p (range_with_len (a + 1) (n - (a + 1))))
any_step p a n less = ap (λ k. list_any p (range_with_len a k)) (let e : n - a ≡ suc (n - (a + 1)) = omega (arith, less) in e)

-- this one is not: the others decide
pub passed_over : (p : ℕ → Bool) (a n : ℕ) → a < n → p a ≡ false → list_any p (range_with_len (a + 1) (n - (a + 1))) ≡ list_any p (range_with_len a (n - a))
passed_over p a n less never = sym (any_step p a n less ∙ ap (λ b. b || list_any p (range_with_len (a + 1) (n - (a + 1)))) never)

-- this one is
pub found_one : (p : ℕ → Bool) (a n : ℕ) → a < n → p a ≡ true → list_any p (range_with_len a (n - a)) ≡ true
found_one p a n less there = any_step p a n less ∙ ap (λ b. b || list_any p (range_with_len (a + 1) (n - (a + 1)))) there

-- the first of what things are made into are what the first are
pub taken_of : {A B : Type 0} (f : A → B) (k : ℕ) (xs : List A) → take k (map f xs) ≡ map f (take k xs)
taken_of f zero xs = refl
taken_of f (suc k) [] = refl
taken_of f (suc k) (x ∷ xs) = ap (λ ys. f x ∷ ys) (taken_of f k xs)
