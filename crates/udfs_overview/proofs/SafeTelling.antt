-- A name's text tells the units: the characters are read back, and no two lists of characters have one UTF-8.
use Rattle.std.specs.Fmt.{digit_glyph}
use Rattle.std.proofs.Common.{◌≡◌, ℕ, zero, suc, ◌+◌, ◌-◌, ◌*◌, ◌/◌, ◌%◌, ◌<◌, ◌≤◌, ◌^◌, ◌&&◌, ◌||◌, ◌==◌, nat_lt, true, false, cond, List, [], ◌∷◌, ◌++◌, refl, sym, ap, ◌∙◌, arith}
use Rattle.std.specs.Prelude.{slice_index}
use Rattle.std.specs.List.{flat_map}
use Rattle.std.specs.Char.Utf16.{is_high_surrogate, is_low_surrogate, surrogate_pair_char}
use Rattle.std.proofs.lemmas.List.{append-nil}
use Rattle.std.proofs.lemmas.Str.{encodes_same}
use Rattle.std.proofs.lemmas.List.Elements.{recursion_from_All}
use Rattle.std.specs.List.{AllByRecursion}
use Rattle.std.proofs.lemmas.Bool.Decides.{nat_tests}
use Rattle.udfs_osta.specs.Names.{AreUnits}
use Rattle.udfs_osta.specs.Escapes.{escape, must_escape, is_dots}
use Rattle.udfs_overview.specs.SafeNames.{is_unsafe, safe_unit, safe_units, safe_characters, safe_name}
use Rattle.udfs_overview.proofs.Choices.{chosen}

-- the value of an upper-case hexadecimal digit
abbrev hex_value : ℕ → ℕ
hex_value c = cond (nat_lt c 58) (c - 48) (c - 55)

-- the unit of an escape, after its `\`
abbrev escaped_unit : List ℕ → ℕ
escaped_unit cs =
    hex_value (slice_index cs 1) * 4096 + hex_value (slice_index cs 2) * 256 + hex_value (slice_index cs 3) * 16
    + hex_value (slice_index cs 4)

abbrev high_of : ℕ → ℕ
high_of c = 0xD800 + (c - 0x1_0000) / 0x400

abbrev low_of : ℕ → ℕ
low_of c = 0xDC00 + (c - 0x1_0000) % 0x400

-- the units that characters stand for, where the first so many are passed over
told : ℕ → List ℕ → List ℕ
told n [] = []
told zero (c ∷ cs) =
    cond (c == 92) (escaped_unit cs ∷ told 5 cs) (cond (nat_lt c 0x1_0000) (c ∷ told zero cs) (high_of c ∷ low_of c ∷ told zero cs))
told (suc n) (c ∷ cs) = told n cs

hex_back : (n : ℕ) → n < 16 → hex_value (digit_glyph true n) ≡ n
hex_back n h = grind (arith, nat_tests)

digits_back : (u : ℕ) → u < 2 ^ 16
    → hex_value (digit_glyph true (u / 4096)) * 4096 + hex_value (digit_glyph true (u / 256 % 16)) * 256 + hex_value (digit_glyph true (u / 16 % 16)) * 16 + hex_value (digit_glyph true (u % 16)) ≡ u
digits_back u h =
    rw (hex_back (u / 4096) (omega arith), hex_back (u / 256 % 16) (omega arith), hex_back (u / 16 % 16) (omega arith), hex_back (u % 16) (omega arith)) (omega arith)

told-escape : (u : ℕ) (cs : List ℕ) → u < 2 ^ 16 → told 0 (escape u ++ cs) ≡ u ∷ told 0 cs
unfolding told
told-escape u cs h = ap (λ x. x ∷ told 0 cs) (digits_back u h)

told-plain : (u : ℕ) (cs : List ℕ) → u < 2 ^ 16 → (must_escape u || is_unsafe u) ≡ false → told 0 (u ∷ cs) ≡ u ∷ told 0 cs
unfolding told
told-plain u cs h e =
    let a : (u == 92) ≡ false = grind (arith, nat_tests) in
    let b : nat_lt u 0x1_0000 ≡ true = grind (arith, nat_tests) in
    rw (a, b) refl

told-pair : (u v : ℕ) (cs : List ℕ) → (is_high_surrogate u && is_low_surrogate v) ≡ true → told 0 (surrogate_pair_char u v ∷ cs) ≡ u ∷ v ∷ told 0 cs
unfolding told
told-pair u v cs h =
    let low : 0xD800 ≤ u = grind (arith, nat_tests) in
    let high : u < 0xDC00 = grind (arith, nat_tests) in
    let low2 : 0xDC00 ≤ v = grind (arith, nat_tests) in
    let high2 : v < 0xE000 = grind (arith, nat_tests) in
    let c = surrogate_pair_char u v in
    let a : (c == 92) ≡ false = grind (arith, nat_tests) in
    let b : nat_lt c 0x1_0000 ≡ false = grind (arith, nat_tests) in
    let d : high_of c ≡ u = omega arith in
    let e : low_of c ≡ v = omega arith in
    rw (a, b, d, e) refl

told-unit : (u : ℕ) (cs : List ℕ) → u < 2 ^ 16 → told 0 (safe_unit u ++ cs) ≡ u ∷ told 0 cs
told-unit u cs h =
    chosen (λ s. told 0 (s ++ cs) ≡ u ∷ told 0 cs) (must_escape u || is_unsafe u) (escape u) (u ∷ []) (λ e. told-escape u cs h) (λ e. told-plain u cs h e)

told-safe : (us : List ℕ) → AllByRecursion (λ u. u < 2 ^ 16) us → told 0 (safe_units us) ≡ us
unfolding safe_units told
told-safe [] h = refl
told-safe (u ∷ []) h = ap (told 0) (sym (append-nil (safe_unit u))) ∙ told-unit u [] h.0
told-safe (u ∷ v ∷ us) h =
    chosen (λ s. told 0 s ≡ u ∷ v ∷ us) (is_high_surrogate u && is_low_surrogate v) (surrogate_pair_char u v ∷ safe_units us) (safe_unit u ++ safe_units (v ∷ us))
    (λ e. told-pair u v (safe_units us) e ∙ ap (λ x. u ∷ v ∷ x) (told-safe us h.1.1))
    (λ e. told-unit u (safe_units (v ∷ us)) h.0 ∙ ap (λ x. u ∷ x) (told-safe (v ∷ us) h.1))

told-escapes : (us : List ℕ) → AllByRecursion (λ u. u < 2 ^ 16) us → told 0 (flat_map escape us) ≡ us
unfolding told
told-escapes [] h = refl
told-escapes (u ∷ us) h = told-escape u (flat_map escape us) h.0 ∙ ap (λ x. u ∷ x) (told-escapes us h.1)

told-characters : (us : List ℕ) → AreUnits us → told 0 (safe_characters us) ≡ us
told-characters us h =
    let r = recursion_from_All (λ u. u < 2 ^ 16) us h in
    chosen (λ s. told 0 s ≡ us) (is_dots us) (flat_map escape us) (safe_units us) (λ e. told-escapes us r) (λ e. told-safe us r)

-- two names with one text have the same units
pub units_from_safe_name : (us vs : List ℕ) → AreUnits us → AreUnits vs → safe_name us ≡ safe_name vs → us ≡ vs
unfolding safe_name
units_from_safe_name us vs h k e =
    sym (told-characters us h) ∙ ap (told 0) (encodes_same (safe_characters us) (safe_characters vs) e) ∙ told-characters vs k
