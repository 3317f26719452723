-- How many bits of a mask are set below one of them, and what a bit more makes of it.
use Rattle.std.specs.Prelude.{◌≡◌, ◌≢◌, ℕ, zero, suc, ◌+◌, ◌-◌, ◌^◌, ◌%◌, ◌<◌, ◌≤◌, bit_and}
use Rattle.std.specs.Int.{bit_at}
use Rattle.std.specs.Int.RustNames.{count_ones}
use lib.Count.{ones_cat}
use Rattle.std.proofs.Math.Numerals.{one-add}
use Rattle.std.proofs.lemmas.Nat.{mod-pow-add, pow_pos, and_mask}
use Rattle.std.proofs.lemmas.Nat.Bits.{bit_at-lt}
use Rattle.std.proofs.lemmas.Bool.{cases_lt}
use Rattle.std.proofs.Common.{refl, sym, ap, subst, ◌∙◌, arith, ⊎_elim}
use Rattle.udfs_lattice.specs.Packets.{rank}

one_bit : (b : ℕ) → b < 2 → count_ones b ≡ b
unfolding count_ones
one_bit zero h = refl
one_bit (suc zero) h = refl
one_bit (suc (suc b)) h = absurd (omega arith)

no_bits : (m : ℕ) → m ≡ 0 → count_ones m ≡ 0
unfolding count_ones
no_bits m e = rw e refl

low_below : (n i : ℕ) → n % 2 ^ i < 2 ^ i
low_below n i = let p : 0 < 2 ^ i = pow_pos i in omega arith

pub count_ones-low : (n i : ℕ) → count_ones (n % 2 ^ i) ≡ rank n i
unfolding rank
count_ones-low n zero = no_bits (n % 1) (omega arith)
count_ones-low n (suc i) =
    ap (λ k. count_ones (n % 2 ^ k)) (sym (one-add i))
    ∙ ap count_ones (mod-pow-add n 1 i)
    ∙ ones_cat i (bit_at n i) (n % 2 ^ i) (low_below n i)
    ∙ ap (λ x. x + count_ones (n % 2 ^ i)) (one_bit (bit_at n i) (bit_at-lt n i))
    ∙ ap (λ x. bit_at n i + x) (count_ones-low n i)
    ∙ omega arith

-- what the code of a rank computes
pub rank-low_mask : (mask bit shifted : ℕ) → shifted ≡ 2 ^ bit → count_ones (bit_and mask (shifted - 1)) ≡ rank mask bit
rank-low_mask mask bit shifted e = ap (λ x. count_ones (bit_and mask (x - 1))) e ∙ ap count_ones (and_mask mask bit) ∙ count_ones-low mask bit

later : (a b c : ℕ) → a < b → a < b + c
later a b c h = omega arith

here : (n i m : ℕ) → i ≡ m → bit_at n i ≡ 1 → rank n i < rank n m + bit_at n m
here n i m e set = subst (λ k. rank n i < rank n k + bit_at n k) e (let s : bit_at n i ≡ 1 = set in omega (arith, s))

-- a set bit has a place of its own
pub rank_below : (n i m : ℕ) → i < m → bit_at n i ≡ 1 → rank n i < rank n m
unfolding rank
rank_below n i zero h set = absurd (omega arith)
rank_below n i (suc m) h set = ⊎_elim
    (λ lt. later (rank n i) (rank n m) (bit_at n m) (rank_below n i m lt set))
    (λ ge. here n i m (omega arith) set)
    (cases_lt i m)

rank_up_step : (a x c : ℕ) → a ≤ c → a ≤ c + x
rank_up_step a x c h = omega arith

rank_top : (n i m : ℕ) → i ≤ m → m ≤ i → rank n i ≤ rank n m
rank_top n i m h ge = let e : i ≡ m = omega arith in subst (λ k. rank n i ≤ rank n k) e (omega arith)

pub rank_up : (n i m : ℕ) → i ≤ m → rank n i ≤ rank n m
unfolding rank
rank_up n i zero h = let e : i ≡ 0 = omega arith in rw e (omega arith)
rank_up n i (suc m) h = ⊎_elim
    (λ lt. rank_up_step (rank n i) (bit_at n m) (rank n m) (rank_up n i m (omega arith)))
    (λ ge. rank_top n i (suc m) h ge)
    (cases_lt i (suc m))

-- of 32 bits, `up` has those of `low` and the bit b besides
pub record HasAlso (low up b : ℕ) : Type 0 where
  pub others : (j : ℕ) → j < 32 → j ≢ b → bit_at up j ≡ bit_at low j
  pub clear : bit_at low b ≡ 0
  pub set : bit_at up b ≡ 1

same_step : (a a' x x' : ℕ) → a' ≡ a → x' ≡ x → a' + x' ≡ a + x
same_step a a' x x' e f = omega arith

-- no other rank up to the bit
pub rank_same : (low up b i : ℕ) → HasAlso low up b → b < 32 → i ≤ b → rank up i ≡ rank low i
unfolding rank
rank_same low up b zero s small h = refl
rank_same low up b (suc i) s small h = same_step (rank low i) (rank up i) (bit_at low i) (bit_at up i) (rank_same low up b i s small (omega arith)) (s.others i (omega arith) (λ e. absurd (omega arith)))

at_step : (a a' x x' : ℕ) → a' ≡ a → x' ≡ 1 → x ≡ 0 → a' + x' ≡ a + x + 1
at_step a a' x x' e f g = omega arith

more_step : (a a' x x' : ℕ) → a' ≡ a + 1 → x' ≡ x → a' + x' ≡ a + x + 1
more_step a a' x x' e f = omega arith

at_bit : (low up b i : ℕ) → HasAlso low up b → b ≡ i → (bit_at up i ≡ 1) × (bit_at low i ≡ 0)
at_bit low up b i s e = subst (λ k. (bit_at up k ≡ 1) × (bit_at low k ≡ 0)) e (s.set, s.clear)

-- one more above it
pub rank_more : (low up b i : ℕ) → HasAlso low up b → b < i → i ≤ 32 → rank up i ≡ rank low i + 1
unfolding rank
rank_more low up b zero s h small = absurd (omega arith)
rank_more low up b (suc i) s h small = ⊎_elim
    (λ lt. more_step (rank low i) (rank up i) (bit_at low i) (bit_at up i) (rank_more low up b i s lt (omega arith)) (s.others i (omega arith) (λ e. absurd (omega arith))))
    (λ ge. let e : b ≡ i = omega arith in let p = at_bit low up b i s e in at_step (rank low i) (rank up i) (bit_at low i) (bit_at up i) (rank_same low up b i s (omega arith) ge) p.0 p.1)
    (cases_lt b i)
