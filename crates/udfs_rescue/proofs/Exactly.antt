-- The ranges that are computed from the runs hold exactly the blocks all of whose bytes are rescued.
use Rattle.std.proofs.Common.{◌≡◌, ℕ, zero, suc, ◌+◌, ◌-◌, ◌*◌, ◌/◌, ◌≤◌, ◌<◌, ◌⊎◌, inl, inr, ⊎_elim, ◌↔◌, Bool, true, false, cond, List, [], ◌∷◌, ◌++◌, refl, sym, ap, subst, arith, ltb}
use Rattle.std.proofs.lemmas.Bool.{lt-ltb, ltb-true, cases_lt, ne_eqb}
use Rattle.udfs_rescue.specs.declared.run.Run.{Run}
use Rattle.udfs_rescue.specs.declared.run.RunStatus.{RunStatus}
use Rattle.udfs_rescue.specs.declared.run.RunStatus.TheVariants.{NonTried, NonTrimmed, NonScraped, BadSector, Finished}
use Rattle.udfs_rescue.specs.declared.known.BlockRange.{BlockRange}
use Rattle.udfs_rescue.specs.Runs.{RunsFrom}
use Rattle.udfs_rescue.specs.Known.{IsRescued, IsKnown, InRanges, RiseFrom}
use Rattle.udfs_rescue.specs.Ranges.{range_of, goes_on_by, joins_next, ranges_from}

when_true : {A : Type 0} (t : Bool) (x y : A) → t ≡ true → cond t x y ≡ x
when_true t x y e = ap (λ s. cond s x y) e

when_false : {A : Type 0} (t : Bool) (x y : A) → t ≡ false → cond t x y ≡ y
when_false t x y e = ap (λ s. cond s x y) e

one_range : (t : Bool) (start end n : ℕ) → InRanges (cond t (record { start = start; end = end } ∷ []) []) n → (start ≤ n) × (n < end)
one_range true start end n (inl h) = h
one_range true start end n (inr h) = absurd h
one_range false start end n h = absurd h

in_one_range : (t : Bool) (start end n : ℕ) → t ≡ true → start ≤ n → n < end → InRanges (cond t (record { start = start; end = end } ∷ []) []) n
in_one_range true start end n e h k = inl (h, k)
in_one_range false start end n e h k = absurd cc

from_range : (s p n : ℕ) → InRanges (range_of s p) n → (s ≤ 2048 * n) × (2048 * n + 2048 ≤ p)
from_range s p n h =
    let k : ((s + 2047) / 2048 ≤ n) × (n < p / 2048) = one_range (ltb ((s + 2047) / 2048) (p / 2048)) ((s + 2047) / 2048) (p / 2048) n h in
    (omega arith, omega arith)

to_range : (s p n : ℕ) → s ≤ 2048 * n → 2048 * n + 2048 ≤ p → InRanges (range_of s p) n
to_range s p n h k =
    let from : (s + 2047) / 2048 ≤ n = omega arith in
    let to : n < p / 2048 = omega arith in
    in_one_range (ltb ((s + 2047) / 2048) (p / 2048)) ((s + 2047) / 2048) (p / 2048) n (lt-ltb _ _ (omega arith)) from to

in_append : (xs ys : List BlockRange) (n : ℕ) → InRanges (xs ++ ys) n → InRanges xs n ⊎ InRanges ys n
in_append [] ys n h = inr h
in_append (x ∷ xs) ys n (inl h) = inl (inl h)
in_append (x ∷ xs) ys n (inr h) = ⊎_elim (λ k. inl (inr k)) (λ k. inr k) (in_append xs ys n h)

append_left : (xs ys : List BlockRange) (n : ℕ) → InRanges xs n → InRanges (xs ++ ys) n
append_left [] ys n h = absurd h
append_left (x ∷ xs) ys n (inl h) = inl h
append_left (x ∷ xs) ys n (inr h) = inr (append_left xs ys n h)

append_right : (xs ys : List BlockRange) (n : ℕ) → InRanges ys n → InRanges (xs ++ ys) n
append_right [] ys n h = h
append_right (x ∷ xs) ys n h = inr (append_right xs ys n h)

-- what is rescued in runs from a position on stands there
above : (p : ℕ) (rs : List Run) (j : ℕ) → RunsFrom p rs → IsRescued rs j → p ≤ j
above p [] j h k = absurd k
above p (r ∷ rs) j h (inl k) = omega (arith, h.0, k.1)
above p (r ∷ rs) j h (inr k) = omega (arith, above (p + r.size) rs j h.2 k)

-- the byte stands from s up to p, or in a run of status + that is left
abbrev Covered : ℕ → ℕ → List Run → ℕ → Type 0
Covered s p rs j = ((s ≤ j) × (j < p)) ⊎ IsRescued rs j

abbrev AllCovered : ℕ → ℕ → List Run → ℕ → Type 0
AllCovered s p rs n = (i : ℕ) → i < 2048 → Covered s p rs (2048 * n + i)

-- whether what is rescued before a run goes on behind it
data Kind (st : RunStatus) (size : ℕ) : Type 0 where
  Goes : (goes_on_by st size ≡ true) → ((st ≡ Finished) ⊎ (size ≡ 0)) → Kind st size
  Stops : (goes_on_by st size ≡ false) → (st ≡ Finished → ⊥) → (0 < size) → Kind st size

kind_of : (st : RunStatus) (size : ℕ) → Kind st size
kind_of Finished size = Goes refl (inl refl)
kind_of NonTried zero = Goes refl (inr refl)
kind_of NonTrimmed zero = Goes refl (inr refl)
kind_of NonScraped zero = Goes refl (inr refl)
kind_of BadSector zero = Goes refl (inr refl)
kind_of NonTried (suc n) = Stops (ne_eqb (suc n) 0 (λ e. omega (arith, e))) (λ e. absurd cc) (omega arith)
kind_of NonTrimmed (suc n) = Stops (ne_eqb (suc n) 0 (λ e. omega (arith, e))) (λ e. absurd cc) (omega arith)
kind_of NonScraped (suc n) = Stops (ne_eqb (suc n) 0 (λ e. omega (arith, e))) (λ e. absurd cc) (omega arith)
kind_of BadSector (suc n) = Stops (ne_eqb (suc n) 0 (λ e. omega (arith, e))) (λ e. absurd cc) (omega arith)

covered_none : (s p j : ℕ) → Covered s p [] j → (s ≤ j) × (j < p)
covered_none s p j (inl h) = h
covered_none s p j (inr h) = absurd h

-- ---- no run is left

end_from : (s p n : ℕ) → InRanges (range_of s p) n → AllCovered s p [] n
end_from s p n h = λ i k. let w = from_range s p n h in inl (omega (arith, w.0), omega (arith, w.1))

end_to : (s p n : ℕ) → AllCovered s p [] n → InRanges (range_of s p) n
end_to s p n h =
    let first = covered_none s p (2048 * n + 0) (h 0 (omega arith)) in
    let last = covered_none s p (2048 * n + 2047) (h 2047 (omega arith)) in
    to_range s p n (omega (arith, first.0)) (omega (arith, last.1))

-- ---- a run that goes on

goes_in : (s p : ℕ) (r : Run) (rs : List Run) (j : ℕ) → s ≤ p → r.at ≡ p → Covered s p (r ∷ rs) j → Covered s (p + r.size) rs j
goes_in s p r rs j o e (inl h) = inl (h.0, omega (arith, h.1))
goes_in s p r rs j o e (inr (inl h)) = inl (omega (arith, h.1), omega (arith, h.2))
goes_in s p r rs j o e (inr (inr h)) = inr h

in_run : (s p : ℕ) (r : Run) (rs : List Run) (j : ℕ) → r.at ≡ p → (r.status ≡ Finished) ⊎ (r.size ≡ 0) → (s ≤ j) → (j < p + r.size) → (j < p) ⊎ (p ≤ j) → Covered s p (r ∷ rs) j
in_run s p r rs j e f h m (inl k) = inl (h, k)
in_run s p r rs j e (inl f) h m (inr k) = inr (inl (f, (omega arith), (omega arith)))
in_run s p r rs j e (inr z) h m (inr k) = absurd (omega arith)

goes_out : (s p : ℕ) (r : Run) (rs : List Run) (j : ℕ) → r.at ≡ p → (r.status ≡ Finished) ⊎ (r.size ≡ 0) → Covered s (p + r.size) rs j → Covered s p (r ∷ rs) j
goes_out s p r rs j e f (inl h) = in_run s p r rs j e f h.0 h.1 (cases_lt j p)
goes_out s p r rs j e f (inr h) = inr (inr h)

-- ---- a run that stops

stop_in : (s p : ℕ) (r : Run) (rs : List Run) (j : ℕ) → (r.status ≡ Finished → ⊥) → RunsFrom (p + r.size) rs → Covered s p (r ∷ rs) j → ((s ≤ j) × (j < p)) ⊎ (IsRescued rs j × (p + r.size ≤ j))
stop_in s p r rs j halts w (inl h) = inl h
stop_in s p r rs j halts w (inr (inl h)) = absurd (halts h.0)
stop_in s p r rs j halts w (inr (inr h)) = inr (h, above (p + r.size) rs j w h)

before_stop : (s p e j : ℕ) (P : Type 0) → p ≤ e → j < e → ((s ≤ j) × (j < p)) ⊎ (P × (e ≤ j)) → (s ≤ j) × (j < p)
before_stop s p e j P o k (inl h) = h
before_stop s p e j P o k (inr h) = absurd (omega (arith, h.1))

behind_stop : (s p e j : ℕ) (P : Type 0) → p ≤ j → ((s ≤ j) × (j < p)) ⊎ (P × (e ≤ j)) → P × (e ≤ j)
behind_stop s p e j P o (inl h) = absurd (omega (arith, h.1))
behind_stop s p e j P o (inr h) = h

stop_cases : (s p : ℕ) (r : Run) (rs : List Run) (n : ℕ) → (r.status ≡ Finished → ⊥) → 0 < r.size → RunsFrom (p + r.size) rs → AllCovered s p (r ∷ rs) n
    → (2048 * n + 2047 < p) ⊎ (p ≤ 2048 * n + 2047) → (p < 2048 * n) ⊎ (2048 * n ≤ p)
    → InRanges (range_of s p) n ⊎ AllCovered (p + r.size) (p + r.size) rs n
stop_cases s p r rs n halts some w h (inl k) b =
    let first : (s ≤ 2048 * n + 0) × (2048 * n + 0 < p) = before_stop s p (p + r.size) (2048 * n + 0) _ (omega arith) (omega arith) (stop_in s p r rs (2048 * n + 0) halts w (h 0 (omega arith))) in
    inl (to_range s p n (omega (arith, first.0)) (omega arith))
stop_cases s p r rs n halts some w h (inr k) (inl m) =
    inr (λ i l. inr ((behind_stop s p (p + r.size) (2048 * n + i) _ (omega arith) (stop_in s p r rs (2048 * n + i) halts w (h i l))).0))
stop_cases s p r rs n halts some w h (inr k) (inr m) =
    let at : 2048 * n + (p - 2048 * n) ≡ p = omega arith in
    let here = stop_in s p r rs (2048 * n + (p - 2048 * n)) halts w (h (p - 2048 * n) (omega arith)) in
    let last : (s ≤ 2048 * n + (p - 2048 * n)) × (2048 * n + (p - 2048 * n) < p) = before_stop s p (p + r.size) (2048 * n + (p - 2048 * n)) _ (omega arith) (omega arith) here in
    absurd (omega (arith, last.1))

covered_behind : (e j : ℕ) (rs : List Run) → Covered e e rs j → IsRescued rs j
covered_behind e j rs (inl h) = absurd (omega (arith, h.0, h.1))
covered_behind e j rs (inr h) = h

-- ---- all runs

abbrev Exact : ℕ → ℕ → List Run → ℕ → List BlockRange → Type 0
Exact s p rs n ranges = (InRanges ranges n → AllCovered s p rs n) × (AllCovered s p rs n → InRanges ranges n)

exact_step : (s p : ℕ) (r : Run) (rs : List Run) (n : ℕ) → s ≤ p → RunsFrom p (r ∷ rs) → Kind r.status r.size
    → Exact s (p + r.size) rs n (ranges_from s (p + r.size) rs) → Exact (p + r.size) (p + r.size) rs n (ranges_from (p + r.size) (p + r.size) rs)
    → Exact s p (r ∷ rs) n (ranges_from s p (r ∷ rs))
exact_step s p r rs n o w (Goes t f) h g =
    let same = when_true (joins_next r) (ranges_from s (p + r.size) rs) (range_of s p ++ ranges_from (p + r.size) (p + r.size) rs) t in (
      λ k i m. goes_out s p r rs (2048 * n + i) w.0 f (h.0 (subst (λ l. InRanges l n) same k) i m),
      λ k. subst (λ l. InRanges l n) (sym same) (h.1 (λ i m. goes_in s p r rs (2048 * n + i) o w.0 (k i m))),
    )
exact_step s p r rs n o w (Stops t halts some) h g =
    let same = when_false (joins_next r) (ranges_from s (p + r.size) rs) (range_of s p ++ ranges_from (p + r.size) (p + r.size) rs) t in (
      λ k i m. ⊎_elim (λ a. let v = from_range s p n a in inl (omega (arith, v.0), omega (arith, v.1))) (λ b. inr (inr (covered_behind (p + r.size) (2048 * n + i) rs (g.0 b i m))))
          (in_append (range_of s p) (ranges_from (p + r.size) (p + r.size) rs) n (subst (λ l. InRanges l n) same k)),
      λ k. subst (λ l. InRanges l n) (sym same) (⊎_elim (λ a. append_left (range_of s p) (ranges_from (p + r.size) (p + r.size) rs) n a) (λ b. append_right (range_of s p) (ranges_from (p + r.size) (p + r.size) rs) n (g.1 b))
          (stop_cases s p r rs n halts some w.2 k (cases_lt (2048 * n + 2047) p) (cases_lt p (2048 * n)))),
    )

exact : (s p : ℕ) (rs : List Run) (n : ℕ) → s ≤ p → RunsFrom p rs → Exact s p rs n (ranges_from s p rs)
exact s p [] n o w = (end_from s p n, end_to s p n)
exact s p (r ∷ rs) n o w = exact_step s p r rs n o w (kind_of r.status r.size) (exact s (p + r.size) rs n (omega arith) w.2) (exact (p + r.size) (p + r.size) rs n (omega arith) w.2)

-- the ranges hold exactly the known blocks
pub known_exactly : (p : ℕ) (rs : List Run) → RunsFrom p rs → (n : ℕ) → InRanges (ranges_from p p rs) n ↔ IsKnown rs n
known_exactly p rs w n =
    let h = exact p p rs n (omega arith) w in
    (λ k i m. covered_behind p (2048 * n + i) rs (h.0 k i m), λ k. h.1 (λ i m. inr (k i m)))

-- ---- they rise

rise_front : (t : Bool) (start end low : ℕ) (ys : List BlockRange) → (t ≡ true → start < end) → low ≤ start → RiseFrom end ys → RiseFrom low ys → RiseFrom low (cond t (record { start = start; end = end } ∷ []) [] ++ ys)
rise_front true start end low ys h o a b = (o, h refl, a)
rise_front false start end low ys h o a b = b

rise_one : (t : Bool) (start end low : ℕ) → (t ≡ true → start < end) → low ≤ start → RiseFrom low (cond t (record { start = start; end = end } ∷ []) [])
rise_one true start end low h o = (o, h refl, tt)
rise_one false start end low h o = tt

rise_step : (low s p : ℕ) (r : Run) (rs : List Run) → low ≤ (s + 2047) / 2048 → s ≤ p → Kind r.status r.size
    → RiseFrom low (ranges_from s (p + r.size) rs) → RiseFrom low (ranges_from (p + r.size) (p + r.size) rs) → RiseFrom (p / 2048) (ranges_from (p + r.size) (p + r.size) rs)
    → RiseFrom low (ranges_from s p (r ∷ rs))
rise_step low s p r rs o q (Goes t f) h g k = subst (RiseFrom low) (sym (when_true (joins_next r) (ranges_from s (p + r.size) rs) (range_of s p ++ ranges_from (p + r.size) (p + r.size) rs) t)) h
rise_step low s p r rs o q (Stops t halts some) h g k =
    subst (RiseFrom low) (sym (when_false (joins_next r) (ranges_from s (p + r.size) rs) (range_of s p ++ ranges_from (p + r.size) (p + r.size) rs) t))
    (rise_front (ltb ((s + 2047) / 2048) (p / 2048)) ((s + 2047) / 2048) (p / 2048) low (ranges_from (p + r.size) (p + r.size) rs) (λ e. ltb-true _ _ e) o k g)

pub rising : (low s p : ℕ) (rs : List Run) → low ≤ (s + 2047) / 2048 → s ≤ p → RiseFrom low (ranges_from s p rs)
rising low s p [] o q = rise_one (ltb ((s + 2047) / 2048) (p / 2048)) ((s + 2047) / 2048) (p / 2048) low (λ e. ltb-true _ _ e) o
rising low s p (r ∷ rs) o q =
    rise_step low s p r rs o q (kind_of r.status r.size) (rising low s (p + r.size) rs o (omega arith))
    (rising low (p + r.size) (p + r.size) rs (omega arith) (omega arith)) (rising (p / 2048) (p + r.size) (p + r.size) rs (omega arith) (omega arith))
