-- The first of some numbers that passes a test.
use Rattle.std.proofs.Common.{◌≡◌, ◌<◌, ◌≤◌, ◌-◌, ◌+◌, ℕ, suc, List, [], ◌∷◌, ◌++◌, Bool, true, false, cond, arith, sym, ap, ◌∙◌, append_assoc, append-nil}
use Rattle.udfs_lattice.specs.Volumes.{Blocks}
use Rattle.udfs_witnesses.specs.Witnesses.{first_of, telling_from, telling_in}

less_one : (n end : ℕ) → n < end → end - n ≡ suc (end - (n + 1))
less_one n end lt = omega (arith, lt)

-- a number before the end is looked at, and then those after it
one_step : (test : ℕ → Bool) (n end : ℕ) → n < end → first_of test n (end - n) ≡ cond (test n) (n ∷ []) (first_of test (n + 1) (end - (n + 1)))
unfolding first_of
one_step test n end lt = ap (λ (k : ℕ). first_of test n k) (less_one n end lt)

-- at the beginning all of sixteen are left
pub begins : (test : ℕ → Bool) (n : ℕ) → first_of test n (n + 16 - n) ≡ first_of test n 16
unfolding first_of
begins test n = ap (λ (k : ℕ). first_of test n k) (let e : n + 16 - n ≡ 16 = omega arith in e)

-- one that does not pass is passed over
pub goes_on : (test : ℕ → Bool) (n end : ℕ) (all : List ℕ) → n < end → test n ≡ false → first_of test n (end - n) ≡ all → first_of test (n + 1) (end - (n + 1)) ≡ all
goes_on test n end all lt misses is = sym (one_step test n end lt ∙ ap (λ (b : Bool). cond b (n ∷ []) (first_of test (n + 1) (end - (n + 1)))) misses) ∙ is

-- one that passes is the first
pub found_here : (test : ℕ → Bool) (n end : ℕ) (all : List ℕ) → n < end → test n ≡ true → first_of test n (end - n) ≡ all → n ∷ [] ≡ all
found_here test n end all lt passes is = sym (one_step test n end lt ∙ ap (λ (b : Bool). cond b (n ∷ []) (first_of test (n + 1) (end - (n + 1)))) passes) ∙ is

-- at the end there is none
pub none_left : (test : ℕ → Bool) (n end : ℕ) (all : List ℕ) → end ≤ n → first_of test n (end - n) ≡ all → [] ≡ all
unfolding first_of
none_left test n end all le is = sym (ap (λ (k : ℕ). first_of test n k) (let e : end - n ≡ 0 = omega (arith, le) in e)) ∙ is

-- a ninth is looked at, and then those after it
next_ninth : (blocks : Blocks) (last i : ℕ) → i < 9 → telling_from blocks last i (9 - i) ≡ telling_in blocks last i ++ telling_from blocks last (i + 1) (9 - (i + 1))
unfolding telling_from
next_ninth blocks last i lt = ap (λ (k : ℕ). telling_from blocks last i k) (less_one i 9 lt)

pub one_ninth : (blocks : Blocks) (last i : ℕ) (old new all : List ℕ) → i < 9 → new ≡ old ++ telling_in blocks last i → old ++ telling_from blocks last i (9 - i) ≡ all → new ++ telling_from blocks last (i + 1) (9 - (i + 1)) ≡ all
one_ninth blocks last i old new all lt more is =
    let rest = telling_from blocks last (i + 1) (9 - (i + 1)) in
    ap (λ (l : List ℕ). l ++ rest) more ∙ append_assoc old (telling_in blocks last i) rest ∙ ap (λ (l : List ℕ). old ++ l) (sym (next_ninth blocks last i lt)) ∙ is

-- after the last ninth there is none
pub all_ninths : (blocks : Blocks) (last i : ℕ) (old all : List ℕ) → 9 ≤ i → old ++ telling_from blocks last i (9 - i) ≡ all → old ≡ all
unfolding telling_from
all_ninths blocks last i old all le is = sym (ap (λ (k : ℕ). old ++ telling_from blocks last i k) (let e : 9 - i ≡ 0 = omega (arith, le) in e) ∙ append-nil old) ∙ is
