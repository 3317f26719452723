-- What no name's text holds.
use Rattle.std.specs.Fmt.{digit_glyph}
use Rattle.std.proofs.Common.{◌≡◌, ℕ, ◌+◌, ◌/◌, ◌%◌, ◌<◌, ◌≤◌, ◌^◌, ◌&&◌, ◌||◌, nat_lt, true, false, List, [], ◌∷◌, ◌++◌, arith}
use Rattle.std.specs.List.{All, AllByRecursion, flat_map}
use Rattle.std.specs.Char.Utf16.{is_high_surrogate, is_low_surrogate, surrogate_pair_char}
use Rattle.std.proofs.lemmas.Bool.Decides.{nat_tests}
use Rattle.std.proofs.lemmas.List.Elements.{All-from_recursion, recursion_from_All}
use Rattle.udfs_osta.specs.Names.{AreUnits}
use Rattle.udfs_osta.specs.Escapes.{escape, must_escape, is_dots}
use Rattle.udfs_overview.specs.SafeNames.{IsSafe, is_unsafe, safe_unit, safe_units, safe_characters}
use Rattle.udfs_overview.proofs.Choices.{chosen}

both_safe : (xs ys : List ℕ) → AllByRecursion IsSafe xs → AllByRecursion IsSafe ys → AllByRecursion IsSafe (xs ++ ys)
both_safe [] ys h k = k
both_safe (x ∷ xs) ys h k = (h.0, both_safe xs ys h.1 k)

-- letters, digits and the backslash
ascii_safe : (c : ℕ) → 48 ≤ c → c < 0x7F → IsSafe c
ascii_safe c h k = record { no_control = omega arith; no_slash = λ e. omega arith; not_unsafe = grind (arith, nat_tests) }

-- characters of pairs
high_safe : (c : ℕ) → 0x1_0000 ≤ c → IsSafe c
high_safe c h = record { no_control = omega arith; no_slash = λ e. omega arith; not_unsafe = grind (arith, nat_tests) }

hex_safe : (n : ℕ) → n < 16 → IsSafe (digit_glyph true n)
hex_safe n h =
    chosen IsSafe (nat_lt n 10) (48 + n) (55 + n) (λ e. ascii_safe (48 + n) (omega arith) (omega arith)) (λ e. ascii_safe (55 + n) (omega arith) (omega arith))

escape_safe : (u : ℕ) → u < 0x1_0000 → AllByRecursion IsSafe (escape u)
escape_safe u h = (
  ascii_safe 92 (omega arith) (omega arith),
  (
    ascii_safe 117 (omega arith) (omega arith),
    (hex_safe (u / 4096) (omega arith), (hex_safe (u / 256 % 16) (omega arith), (hex_safe (u / 16 % 16) (omega arith), (hex_safe (u % 16) (omega arith), tt)))),
  ),
)

kept_safe : (u : ℕ) → (must_escape u || is_unsafe u) ≡ false → IsSafe u
kept_safe u h = record { no_control = grind (arith, nat_tests); no_slash = λ e. grind (arith, nat_tests); not_unsafe = grind (arith, nat_tests) }

unit_safe : (u : ℕ) → u < 0x1_0000 → AllByRecursion IsSafe (safe_unit u)
unit_safe u h = chosen (AllByRecursion IsSafe) (must_escape u || is_unsafe u) (escape u) (u ∷ []) (λ e. escape_safe u h) (λ e. (kept_safe u e, tt))

units_safe : (us : List ℕ) → AllByRecursion (λ u. u < 2 ^ 16) us → AllByRecursion IsSafe (safe_units us)
unfolding safe_units
units_safe [] h = tt
units_safe (u ∷ []) h = unit_safe u h.0
units_safe (u ∷ v ∷ us) h =
    chosen (AllByRecursion IsSafe) (is_high_surrogate u && is_low_surrogate v) (surrogate_pair_char u v ∷ safe_units us) (safe_unit u ++ safe_units (v ∷ us))
    (λ e. (high_safe (surrogate_pair_char u v) (omega arith), units_safe us h.1.1))
    (λ e. both_safe (safe_unit u) (safe_units (v ∷ us)) (unit_safe u h.0) (units_safe (v ∷ us) h.1))

escapes_safe : (us : List ℕ) → AllByRecursion (λ u. u < 2 ^ 16) us → AllByRecursion IsSafe (flat_map escape us)
escapes_safe [] h = tt
escapes_safe (u ∷ us) h = both_safe (escape u) (flat_map escape us) (escape_safe u h.0) (escapes_safe us h.1)

-- each character of a name's text is safe
pub characters_safe : (us : List ℕ) → AreUnits us → All IsSafe (safe_characters us)
characters_safe us h =
    let r = recursion_from_All (λ u. u < 2 ^ 16) us h in
    All-from_recursion IsSafe (safe_characters us)
    (chosen (AllByRecursion IsSafe) (is_dots us) (flat_map escape us) (safe_units us) (λ e. escapes_safe us r) (λ e. units_safe us r))
