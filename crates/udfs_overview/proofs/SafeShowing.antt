-- The characters that are shown for units, part by part.
use Rattle.std.proofs.Common.{◌≡◌, ℕ, ◌+◌, ◌<◌, ◌&&◌, Bool, true, false, cond, eqb, List, [], ◌∷◌, ◌++◌, length, drop, get_or, refl, sym, ap, ◌∙◌, arith}
use Rattle.std.specs.Char.Utf16.{is_high_surrogate, is_low_surrogate, surrogate_pair_char}
use Rattle.std.specs.Str.{encode_utf8_all}
use Rattle.std.specs.List.{flat_map}
use Rattle.std.proofs.lemmas.List.{append_assoc, append-nil, at_drop_more}
use Rattle.std.proofs.lemmas.Bool.Decides.{nat_tests}
use Rattle.std.proofs.lemmas.Str.{encodes-append}
use Rattle.udfs_osta.specs.Escapes.{escape, is_dots}
use Rattle.udfs_overview.specs.SafeNames.{safe_name, safe_unit, safe_units}
use Rattle.udfs_osta.specs.Fronts.{front_len}
use Rattle.udfs_overview.specs.SafeFronts.{front_characters}

by_pair : (b : Bool) (u v : ℕ) (us : List ℕ) → cond b (surrogate_pair_char u v ∷ safe_units us) (safe_unit u ++ safe_units (v ∷ us))
    ≡ cond b (surrogate_pair_char u v ∷ []) (safe_unit u) ++ safe_units (drop (cond b 2 1) (u ∷ v ∷ us))
by_pair true u v us = refl
by_pair false u v us = refl

-- the first part, and the rest
front_and_rest : (units : List ℕ) → 0 < length units → safe_units units ≡ front_characters units ++ safe_units (drop (front_len units) units)
unfolding safe_units
front_and_rest [] h = absurd (omega arith)
front_and_rest (u ∷ []) h = sym (append-nil (safe_unit u))
front_and_rest (u ∷ v ∷ us) h = by_pair (is_high_surrogate u && is_low_surrogate v) u v us

encoded_front : (units : List ℕ) → 0 < length units
    → encode_utf8_all (safe_units units) ≡ encode_utf8_all (front_characters units) ++ encode_utf8_all (safe_units (drop (front_len units) units))
encoded_front units h = ap encode_utf8_all (front_and_rest units h) ∙ encodes-append (front_characters units) (safe_units (drop (front_len units) units))

-- the first part is appended: what is there and what is left make the same text
pub front_appended : (whole middle new units : List ℕ) (n : ℕ) → 0 < length units → n ≡ front_len units
    → new ≡ middle ++ encode_utf8_all (front_characters units) → middle ++ encode_utf8_all (safe_units units) ≡ whole
    → new ++ encode_utf8_all (safe_units (drop n units)) ≡ whole
front_appended whole middle new units n some count e h =
    rw (e, count)
    (append_assoc middle (encode_utf8_all (front_characters units)) (encode_utf8_all (safe_units (drop (front_len units) units)))
    ∙ ap (λ x. middle ++ x) (sym (encoded_front units some)) ∙ h)

-- one escape is appended
pub escape_appended : (whole middle new units : List ℕ) (i : ℕ) → i < length units
    → new ≡ middle ++ encode_utf8_all (escape (get_or units i 0)) → middle ++ encode_utf8_all (flat_map escape (drop i units)) ≡ whole
    → new ++ encode_utf8_all (flat_map escape (drop (i + 1) units)) ≡ whole
escape_appended whole middle new units i less e h =
    let rest = flat_map escape (drop (i + 1) units) in
    let step : encode_utf8_all (flat_map escape (drop i units)) ≡ encode_utf8_all (escape (get_or units i 0)) ++ encode_utf8_all rest =
    at_drop_more (λ us. encode_utf8_all (flat_map escape us)) units i 0 less ∙ encodes-append (escape (get_or units i 0)) rest in
    rw e (append_assoc middle (encode_utf8_all (escape (get_or units i 0))) (encode_utf8_all rest) ∙ ap (λ x. middle ++ x) (sym step) ∙ h)

pub by_dots : (us vs : List ℕ) (b : Bool) → us ≡ vs → b ≡ is_dots us → b ≡ true → encode_utf8_all (flat_map escape us) ≡ safe_name vs
unfolding safe_name
by_dots us vs b e f h = sym (ap (λ t. encode_utf8_all (cond t (flat_map escape us) (safe_units us))) (sym f ∙ h)) ∙ ap safe_name e

pub by_others : (us vs : List ℕ) (b : Bool) → us ≡ vs → b ≡ is_dots us → b ≡ false → encode_utf8_all (safe_units us) ≡ safe_name vs
unfolding safe_name
by_others us vs b e f h = sym (ap (λ t. encode_utf8_all (cond t (flat_map escape us) (safe_units us))) (sym f ∙ h)) ∙ ap safe_name e

pub not_empty : (n : ℕ) (b : Bool) → b ≡ eqb n 0 → b ≡ false → 0 < n
not_empty n b e f = grind (arith, nat_tests)

pub empty : (n : ℕ) (b : Bool) → b ≡ eqb n 0 → b ≡ true → n ≡ 0
empty n b e f = grind (arith, nat_tests)
