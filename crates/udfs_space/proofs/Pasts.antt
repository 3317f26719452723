-- Whether consecutive logical blocks have places, told by the length of their partition.
use Rattle.std.proofs.Common.{◌≡◌, refl, sym, ◌∙◌, ap, ℕ, ◌+◌, ◌<◌, ◌≤◌, ◌⊎◌, inl, inr, Bool, true, false, ◌||◌, arith, nat_lt, Some}
use Rattle.std.specs.Prelude.{zero, suc, is_none}
use Rattle.std.specs.List.{range_with_len, list_any}
use Rattle.udfs_space.proofs.Facts.{le_or_lt}
use Rattle.udfs_space.specs.Places.{is_past, length_of, place}
use Rattle.udfs_space.specs.Sparing.{Space}
use Rattle.udfs_space.proofs.Standing.{absent, present}

is_lt : (a b : ℕ) → a < b → nat_lt a b ≡ true
is_lt a b h = grind arith

not_lt : (a b : ℕ) → b ≤ a → nat_lt a b ≡ false
not_lt a b h = grind arith

here : (s : Space) (r b : ℕ) → b < length_of s r → is_none (place s r b) ≡ false
here s r b l = let q : (n : ℕ) × (place s r b ≡ Some n) = present s r b l in ap is_none q.1

gone : (s : Space) (r b : ℕ) → length_of s r ≤ b → is_none (place s r b) ≡ true
gone s r b l = ap is_none (absent s r b l)

or-true : (x : Bool) → (x || true) ≡ true
or-true true = refl
or-true false = refl

within : (s : Space) (r b a n : ℕ) → b + (a + n) ≤ length_of s r → list_any (λ j. is_none (place s r (b + j))) (range_with_len a n) ≡ false
within s r b a zero h = refl
within s r b a (suc n) h =
    ap (λ x. x || list_any (λ j. is_none (place s r (b + j))) (range_with_len (a + 1) n)) (here s r (b + a) (omega (arith, h)))
    ∙ within s r b (a + 1) n (omega (arith, h))

beyond : (s : Space) (r b a n : ℕ) → length_of s r < b + (a + suc n) → list_any (λ j. is_none (place s r (b + j))) (range_with_len a (suc n)) ≡ true
beyond s r b a zero h = ap (λ x. x || false) (gone s r (b + a) (omega (arith, h)))
beyond s r b a (suc n) h =
    ap (λ x. is_none (place s r (b + a)) || x) (beyond s r b (a + 1) n (omega (arith, h))) ∙ or-true (is_none (place s r (b + a)))

pub past_is : (s : Space) (r b n : ℕ) → 0 < n → nat_lt (length_of s r) (b + n) ≡ is_past (place s) r b n
past_is s r b zero h = absurd (let z : ⊥ = omega (arith, h) in z)
past_is s r b (suc n) h = go (le_or_lt (b + suc n) (length_of s r))
  where
    go : (b + suc n ≤ length_of s r) ⊎ (length_of s r < b + suc n) → nat_lt (length_of s r) (b + suc n) ≡ is_past (place s) r b (suc n)
    go (inl l) = not_lt (length_of s r) (b + suc n) l ∙ sym (within s r b 0 (suc n) (omega (arith, l)))
    go (inr l) = is_lt (length_of s r) (b + suc n) l ∙ sym (beyond s r b 0 n (omega (arith, l)))
