-- A test of consecutive numbers, from one of them on.
use Rattle.std.proofs.Common.{◌≡◌, sym, ◌∙◌, ap, ℕ, ◌+◌, ◌-◌, ◌<◌, Bool, true, false, ◌||◌, ◌∷◌, arith}
use Rattle.std.specs.Prelude.{suc}
use Rattle.std.specs.List.{list_any, range_with_len}

unroll : (i n : ℕ) → i < n → range_with_len i (n - i) ≡ i ∷ range_with_len (i + 1) (n - (i + 1))
unroll i n h = let e : n - i ≡ suc (n - (i + 1)) = omega (arith, h) in ap (range_with_len i) e

-- the first of them does not pass
pub any_skip : (p : ℕ → Bool) (i n : ℕ) → i < n → p i ≡ false → list_any p (range_with_len (i + 1) (n - (i + 1))) ≡ list_any p (range_with_len i (n - i))
any_skip p i n h e = ap (λ b. b || list_any p (range_with_len (i + 1) (n - (i + 1)))) (sym e) ∙ ap (list_any p) (sym (unroll i n h))

-- it does
pub any_hit : (p : ℕ → Bool) (i n : ℕ) → i < n → p i ≡ true → true ≡ list_any p (range_with_len i (n - i))
any_hit p i n h e = ap (λ b. b || list_any p (range_with_len (i + 1) (n - (i + 1)))) (sym e) ∙ ap (list_any p) (sym (unroll i n h))
