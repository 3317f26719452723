-- Numbers in groups of three digits.
use Rattle.std.proofs.Common.{arith, ◌≡◌, ℕ, ◌+◌, ◌*◌, ◌/◌, ◌%◌, ◌^◌, ◌<◌, ◌≤◌, ◌==◌, Bool, true, false, List, [], ◌∷◌, ◌++◌, length, cond, decimal, refl, sym, ap, ◌∙◌}
use Rattle.std.proofs.lemmas.List.{append_assoc, length-append}
use Rattle.std.proofs.lemmas.Fmt.{decimal_digit, decimal_is_IsNumeral_wide, decimal_step_wide, length-decimal-le_wide}
use Rattle.udfs_overview.specs.Figures.{with_commas, grouped}

-- at most three digits have no comma
no_commas : (ds : List ℕ) → length ds ≤ 3 → with_commas ds ≡ ds
no_commas [] h = refl
no_commas (a ∷ []) h = refl
no_commas (a ∷ b ∷ []) h = refl
no_commas (a ∷ b ∷ c ∷ []) h = refl
no_commas (a ∷ b ∷ c ∷ d ∷ ds) h = absurd (omega arith)

pub grouped_small : (n : ℕ) → n < 1000 → decimal n ≡ grouped n
unfolding grouped
grouped_small n h = sym (no_commas (decimal n) (length-decimal-le_wide 3 n (omega arith) (omega arith) (omega arith)))

-- a comma stands in front of the last three digits
last_three : (d : ℕ) (ds : List ℕ) (a b c : ℕ) → with_commas (d ∷ (ds ++ (a ∷ b ∷ c ∷ []))) ≡ with_commas (d ∷ ds) ++ (44 ∷ a ∷ b ∷ c ∷ [])
last_three d [] a b c = refl
last_three d (e ∷ ds) a b c =
    let same : (length ((e ∷ ds) ++ (a ∷ b ∷ c ∷ [])) % 3 == 0) ≡ (length (e ∷ ds) % 3 == 0) = ap (λ n. n == 0) (omega (arith, length-append (e ∷ ds) (a ∷ b ∷ c ∷ []))) in
    rw (same, last_three e ds a b c) (by (length (e ∷ ds) % 3 == 0) (with_commas (e ∷ ds)))
  where
    by : (t : Bool) (front : List ℕ) → cond t (d ∷ 44 ∷ (front ++ (44 ∷ a ∷ b ∷ c ∷ []))) (d ∷ (front ++ (44 ∷ a ∷ b ∷ c ∷ [])))
        ≡ cond t (d ∷ 44 ∷ front) (d ∷ front) ++ (44 ∷ a ∷ b ∷ c ∷ [])
    by true front = refl
    by false front = refl

-- a number has a digit
pub decimal_some : (n : ℕ) → n < 10 ^ 64 → 0 < length (decimal n)
decimal_some n h = (decimal_is_IsNumeral_wide n h).0.0

-- a digit
pub one_digit : (n : ℕ) → n < 10 → decimal n ≡ (48 + n) ∷ []
one_digit = decimal_digit

-- the last three digits of a number
three_digits : (n : ℕ) → 1000 ≤ n → n < 10 ^ 64
    → decimal n ≡ decimal (n / 1000) ++ ((48 + n / 100 % 10) ∷ (48 + n / 10 % 10) ∷ (48 + n % 10) ∷ [])
three_digits n h small =
    let hundred : n / 10 / 10 ≡ n / 100 = omega arith in
    let thousand : n / 100 / 10 ≡ n / 1000 = omega arith in
    let first = decimal_step_wide n (omega arith) small in
    let second = decimal_step_wide (n / 10) (omega arith) (omega arith) in
    let third = decimal_step_wide (n / 100) (omega arith) (omega arith) in
    rw (first, second, hundred, third, thousand) (append_assoc (decimal (n / 1000) ++ ((48 + n / 100 % 10) ∷ [])) ((48 + n / 10 % 10) ∷ []) ((48 + n % 10) ∷ []) ∙ append_assoc (decimal (n / 1000)) ((48 + n / 100 % 10) ∷ []) ((48 + n / 10 % 10) ∷ (48 + n % 10) ∷ []))

-- a number of four digits and more is that of its thousands, a comma, and three digits
pub grouped_step : (n : ℕ) → 1000 ≤ n → n < 10 ^ 64
    → grouped (n / 1000) ++ (44 ∷ (48 + n / 100 % 10) ∷ (48 + n / 10 % 10) ∷ (48 + n % 10) ∷ []) ≡ grouped n
unfolding grouped
grouped_step n h small =
    sym (ap with_commas (three_digits n h small) ∙ by (decimal (n / 1000)) (n / 100 % 10) (n / 10 % 10) (n % 10) (decimal_some (n / 1000) (omega arith)))
  where
    by : (ds : List ℕ) (a b c : ℕ) → 0 < length ds → with_commas (ds ++ ((48 + a) ∷ (48 + b) ∷ (48 + c) ∷ [])) ≡ with_commas ds ++ (44 ∷ (48 + a) ∷ (48 + b) ∷ (48 + c) ∷ [])
    by [] a b c h = absurd (omega arith)
    by (d ∷ ds) a b c h = last_three d ds (48 + a) (48 + b) (48 + c)

-- the last group is appended
pub grouped_appended : (old new : List ℕ) (n : ℕ) → 1000 ≤ n → n < 10 ^ 64 → new ≡ old ++ grouped (n / 1000)
    → new ++ (44 ∷ (decimal (n / 100 % 10) ++ (decimal (n / 10 % 10) ++ decimal (n % 10)))) ≡ old ++ grouped n
grouped_appended old new n h small e =
    let first = one_digit (n / 100 % 10) (omega arith) in
    let second = one_digit (n / 10 % 10) (omega arith) in
    let third = one_digit (n % 10) (omega arith) in
    rw (first, second, third, e)
    (append_assoc old (grouped (n / 1000)) (44 ∷ (48 + n / 100 % 10) ∷ (48 + n / 10 % 10) ∷ (48 + n % 10) ∷ []) ∙ ap (λ x. old ++ x) (grouped_step n h small))

-- two digits behind hundreds
pub hundreds_and : (h p : ℕ) → 0 < h → h < 10 ^ 60 → p < 100 → decimal h ++ (decimal (p / 10) ++ decimal (p % 10)) ≡ decimal (100 * h + p)
hundreds_and h p some small less =
    let n : ℕ = 100 * h + p in
    let tens : n / 10 ≡ 10 * h + p / 10 = omega arith in
    let hundreds : (10 * h + p / 10) / 10 ≡ h = omega arith in
    let ten : (10 * h + p / 10) % 10 ≡ p / 10 = omega arith in
    let one : n % 10 ≡ p % 10 = omega arith in
    let first = one_digit (p / 10) (omega arith) in
    let second = one_digit (p % 10) (omega arith) in
    let steps : decimal n ≡ (decimal h ++ ((48 + p / 10) ∷ [])) ++ ((48 + p % 10) ∷ []) =
    decimal_step_wide n (omega arith) (omega arith)
    ∙ (λ i. decimal (tens i) ++ ((48 + one i) ∷ []))
    ∙ ap (λ x. x ++ ((48 + p % 10) ∷ [])) (decimal_step_wide (10 * h + p / 10) (omega arith) (omega arith) ∙ (λ i. decimal (hundreds i) ++ ((48 + ten i) ∷ []))) in
    rw (first, second) (sym (steps ∙ append_assoc (decimal h) ((48 + p / 10) ∷ []) ((48 + p % 10) ∷ [])))
