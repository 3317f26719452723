-- The characters that stand for units.
use Rattle.std.proofs.Common.{◌≡◌, ℕ, zero, suc, ◌+◌, ◌<◌, ◌≤◌, ◌&&◌, take, Bool, true, false, cond, eqb, List, [], ◌∷◌, ◌++◌, length, drop, get_or, refl, sym, ap, ◌∙◌, arith}
use Rattle.std.specs.Char.Utf16.{is_high_surrogate, is_low_surrogate, surrogate_pair_char}
use Rattle.std.specs.Str.{encode_utf8_all, IsAscii}
use Rattle.std.specs.List.{flat_map}
use Rattle.std.proofs.lemmas.List.{append-nil, at_drop_more}
use Rattle.std.proofs.lemmas.Bool.Decides.{nat_tests}
use Rattle.std.proofs.lemmas.Str.{encodes-append, encodes-IsAscii}
use Rattle.udfs_osta.specs.Escapes.{escape, escaped, is_dots, must_escape, shown, shown_unit}
use Rattle.udfs_osta.specs.Fronts.{front_len, front_chars}

by_pair : (b : Bool) (u v : ℕ) (us : List ℕ) → cond b (surrogate_pair_char u v ∷ shown us) (shown_unit u ++ shown (v ∷ us)) ≡ cond b (surrogate_pair_char u v ∷ []) (shown_unit u) ++ shown (drop (cond b 2 1) (u ∷ v ∷ us))
by_pair true u v us = refl
by_pair false u v us = refl

-- the first part, and the rest
pub shown_front : (units : List ℕ) → 0 < length units → shown units ≡ front_chars units ++ shown (drop (front_len units) units)
unfolding shown
shown_front [] h = absurd (omega arith)
shown_front (u ∷ []) h = sym (append-nil (shown_unit u))
shown_front (u ∷ v ∷ us) h = by_pair (is_high_surrogate u && is_low_surrogate v) u v us

pub encoded_front : (units : List ℕ) → 0 < length units → encode_utf8_all (shown units) ≡ encode_utf8_all (front_chars units) ++ encode_utf8_all (shown (drop (front_len units) units))
encoded_front units h = ap encode_utf8_all (shown_front units h) ∙ encodes-append (front_chars units) (shown (drop (front_len units) units))

no_pair : (u v : ℕ) → u < 128 → (is_high_surrogate u && is_low_surrogate v) ≡ false
no_pair u v h = grind (arith, nat_tests)

ascii_cons : (u : ℕ) (us : List ℕ) → u < 128 → IsAscii us → IsAscii (u ∷ us)
ascii_cons u us h k zero = h
ascii_cons u us h k (suc i) = k i

-- a unit that stands for itself in one byte, and the rest
shown_plain : (u : ℕ) (us : List ℕ) → must_escape u ≡ false → u < 128 → shown (u ∷ us) ≡ u ∷ shown us
unfolding shown
shown_plain u [] e h = ap (λ b. cond b (escape u) (u ∷ [])) e
shown_plain u (v ∷ us) e h =
    ap (λ b. cond b (surrogate_pair_char u v ∷ shown us) (shown_unit u ++ shown (v ∷ us))) (no_pair u v h)
    ∙ ap (λ b. cond b (escape u) (u ∷ []) ++ shown (v ∷ us)) e

-- so many units stand for themselves in one byte
abbrev pub ArePlain : ℕ → List ℕ → Type 0
ArePlain n units = (k : ℕ) → k < n → (must_escape (get_or units k 0) ≡ false) × (get_or units k 0 < 128)

shown_plains : (n : ℕ) (units : List ℕ) → n ≤ length units → ArePlain n units → shown units ≡ take n units ++ shown (drop n units)
shown_plains zero units fits plain = refl
shown_plains (suc n) [] fits plain = absurd (omega arith)
shown_plains (suc n) (u ∷ us) fits plain =
    let first = plain 0 (omega arith) in
    shown_plain u us first.0 first.1 ∙ ap (λ cs. u ∷ cs) (shown_plains n us (omega arith) (λ k below. plain (suc k) (omega arith)))

pub plain_ascii : (n : ℕ) (units : List ℕ) → n ≤ length units → ArePlain n units → IsAscii (take n units)
plain_ascii zero units fits plain = λ k. omega arith
plain_ascii (suc n) [] fits plain = absurd (omega arith)
plain_ascii (suc n) (u ∷ us) fits plain = ascii_cons u (take n us) (plain 0 (omega arith)).1 (plain_ascii n us (omega arith) (λ k below. plain (suc k) (omega arith)))

-- the units at the front that stand for themselves, and the rest
pub encoded_plain : (n : ℕ) (units : List ℕ) → n ≤ length units → ArePlain n units → encode_utf8_all (shown units) ≡ take n units ++ encode_utf8_all (shown (drop n units))
encoded_plain n units fits plain =
    ap encode_utf8_all (shown_plains n units fits plain)
    ∙ encodes-append (take n units) (shown (drop n units))
    ∙ ap (λ cs. cs ++ encode_utf8_all (shown (drop n units))) (encodes-IsAscii (take n units) (plain_ascii n units fits plain))

-- the escapes from place i on
pub escaped_from : (units : List ℕ) (i : ℕ) → i < length units → encode_utf8_all (flat_map escape (drop i units)) ≡ encode_utf8_all (escape (get_or units i 0)) ++ encode_utf8_all (flat_map escape (drop (i + 1) units))
escaped_from units i h =
    at_drop_more (λ us. encode_utf8_all (flat_map escape us)) units i 0 h
    ∙ encodes-append (escape (get_or units i 0)) (flat_map escape (drop (i + 1) units))

pub escaped_dots : (units : List ℕ) → is_dots units ≡ true → escaped units ≡ encode_utf8_all (flat_map escape units)
unfolding escaped
escaped_dots units h = ap (λ b. encode_utf8_all (cond b (flat_map escape units) (shown units))) h

pub escaped_others : (units : List ℕ) → is_dots units ≡ false → escaped units ≡ encode_utf8_all (shown units)
unfolding escaped
escaped_others units h = ap (λ b. encode_utf8_all (cond b (flat_map escape units) (shown units))) h

pub by_dots : (us vs : List ℕ) (b : Bool) → us ≡ vs → b ≡ is_dots us → b ≡ true → encode_utf8_all (flat_map escape us) ≡ escaped vs
by_dots us vs b e f h = sym (escaped_dots us (sym f ∙ h)) ∙ ap escaped e

pub by_others : (us vs : List ℕ) (b : Bool) → us ≡ vs → b ≡ is_dots us → b ≡ false → encode_utf8_all (shown us) ≡ escaped vs
by_others us vs b e f h = sym (escaped_others us (sym f ∙ h)) ∙ ap escaped e

pub not_empty : (n : ℕ) (b : Bool) → b ≡ eqb n 0 → b ≡ false → 0 < n
not_empty n b e f = grind (arith, nat_tests)

pub empty : (n : ℕ) (b : Bool) → b ≡ eqb n 0 → b ≡ true → n ≡ 0
empty n b e f = grind (arith, nat_tests)

-- of no units no bytes are left
pub none_left : (dots : Bool) (units : List ℕ) → length units ≡ 0 → encode_utf8_all (cond dots (flat_map escape units) (shown units)) ≡ []
unfolding shown
none_left true [] h = refl
none_left false [] h = refl
none_left dots (u ∷ us) h = absurd (omega (arith, h))
