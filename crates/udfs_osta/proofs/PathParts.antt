-- What an escaped name never is and never holds.
use Rattle.std.specs.Fmt.{digit_glyph}
use Rattle.std.proofs.Common.{◌≡◌, ℕ, ◌+◌, ◌/◌, ◌%◌, ◌<◌, ◌≤◌, ◌&&◌, ◌==◌, nat_lt, true, false, ltb, eq-eqb, length-append, List, [], ◌∷◌, ◌++◌, length, refl, sym, subst, ◌∙◌, arith}
use Rattle.std.specs.List.{flat_map, list_all}
use Rattle.std.specs.Str.{encode_utf8_all}
use Rattle.std.specs.Char.Utf16.{is_high_surrogate, is_low_surrogate, surrogate_pair_char}
use Rattle.std.proofs.lemmas.Bool.{false≢true}
use Rattle.std.proofs.lemmas.Bool.Decides.{nat_tests}
use lib.Utf8.{encode}
use Rattle.udfs_osta.specs.Escapes.{escape, must_escape, shown_unit, shown, is_dots, escaped}
use Rattle.udfs_osta.specs.Parts.{IsPlain, AllPlain, IsPathPart}
use Rattle.udfs_osta.proofs.Choices.{chosen, and_true}

AllPlain-append : (xs ys : List ℕ) → AllPlain xs → AllPlain ys → AllPlain (xs ++ ys)
AllPlain-append [] ys h k = k
AllPlain-append (x ∷ xs) ys h k = (h.0, AllPlain-append xs ys h.1 k)

hex_plain : (n : ℕ) → IsPlain (digit_glyph true n)
hex_plain n = chosen IsPlain (nat_lt n 10) (48 + n) (55 + n) (λ e. (omega arith, λ s. omega arith)) (λ e. let h : 10 ≤ n = grind (arith, nat_tests) in (omega arith, λ s. omega arith))

escape_plain : (u : ℕ) → AllPlain (escape u)
escape_plain u = ((omega arith, λ s. omega arith), ((omega arith, λ s. omega arith), (hex_plain (u / 4096), (hex_plain (u / 256 % 16), (hex_plain (u / 16 % 16), (hex_plain (u % 16), tt))))))

unescaped : (u : ℕ) → must_escape u ≡ false → IsPlain u
unescaped u h = (grind (arith, nat_tests), λ s. grind (arith, nat_tests))

unit_plain : (u : ℕ) → AllPlain (shown_unit u)
unit_plain u = chosen AllPlain (must_escape u) (escape u) (u ∷ []) (λ e. escape_plain u) (λ e. (unescaped u e, tt))

pair_plain : (u v : ℕ) → IsPlain (surrogate_pair_char u v)
pair_plain u v = (omega arith, λ s. omega arith)

shown_plain : (us : List ℕ) → AllPlain (shown us)
unfolding shown
shown_plain [] = tt
shown_plain (u ∷ []) = unit_plain u
shown_plain (u ∷ v ∷ us) =
    chosen AllPlain (is_high_surrogate u && is_low_surrogate v) (surrogate_pair_char u v ∷ shown us) (shown_unit u ++ shown (v ∷ us))
    (λ e. (pair_plain u v, shown_plain us)) (λ e. AllPlain-append (shown_unit u) (shown (v ∷ us)) (unit_plain u) (shown_plain (v ∷ us)))

escapes_plain : (us : List ℕ) → AllPlain (flat_map escape us)
escapes_plain [] = tt
escapes_plain (u ∷ us) = AllPlain-append (escape u) (flat_map escape us) (escape_plain u) (escapes_plain us)

high_plain : (n : ℕ) → 128 ≤ n → IsPlain n
high_plain n h = (omega arith, λ s. omega arith)

encode_plain : (c : ℕ) → IsPlain c → AllPlain (encode c)
unfolding encode
encode_plain c h =
    chosen AllPlain (ltb c 128) _ _ (λ e. (h, tt)) (λ e.
    chosen AllPlain (ltb c 2048) _ _ (λ e. (high_plain _ (omega arith), (high_plain _ (omega arith), tt))) (λ e.
    chosen AllPlain (ltb c 65536) _ _ (λ e. (high_plain _ (omega arith), (high_plain _ (omega arith), (high_plain _ (omega arith), tt)))) (λ e.
    (high_plain _ (omega arith), (high_plain _ (omega arith), (high_plain _ (omega arith), (high_plain _ (omega arith), tt)))))))

bytes_plain : (cs : List ℕ) → AllPlain cs → AllPlain (encode_utf8_all cs)
bytes_plain [] h = tt
bytes_plain (c ∷ cs) h = AllPlain-append (encode c) (encode_utf8_all cs) (encode_plain c h.0) (bytes_plain cs h.1)

-- no zero byte and no `/`
pub escaped_plain : (us : List ℕ) → AllPlain (escaped us)
unfolding escaped
escaped_plain us =
    chosen (λ cs. AllPlain (encode_utf8_all cs)) (is_dots us) (flat_map escape us) (shown us) (λ e. bytes_plain _ (escapes_plain us)) (λ e. bytes_plain _ (shown_plain us))

-- ---- dots

AllDots : List ℕ → Type 0
AllDots [] = Unit {0}
AllDots (x ∷ xs) = (x ≡ 46) × AllDots xs

dots_left : (xs ys : List ℕ) → AllDots (xs ++ ys) → AllDots xs × AllDots ys
unfolding AllDots
dots_left [] ys h = (tt, h)
dots_left (x ∷ xs) ys h = ((h.0, (dots_left xs ys h.1).0), (dots_left xs ys h.1).1)

-- bytes that are dots encode dots, one each
encoded_dot : (c : ℕ) → AllDots (encode c) → (c ≡ 46) × (length (encode c) ≡ 1)
unfolding encode AllDots
encoded_dot c =
    chosen (λ bs. AllDots bs → (c ≡ 46) × (length bs ≡ 1)) (ltb c 128) _ _ (λ e h. (h.0, refl)) (λ e.
    chosen (λ bs. AllDots bs → (c ≡ 46) × (length bs ≡ 1)) (ltb c 2048) _ _ (λ e h. absurd (omega arith)) (λ e.
    chosen (λ bs. AllDots bs → (c ≡ 46) × (length bs ≡ 1)) (ltb c 65536) _ _ (λ e h. absurd (omega arith)) (λ e h. absurd (omega arith))))

encoded_dots : (cs : List ℕ) → AllDots (encode_utf8_all cs) → AllDots cs × (length (encode_utf8_all cs) ≡ length cs)
unfolding AllDots
encoded_dots [] h = (tt, refl)
encoded_dots (c ∷ cs) h =
    let parts = dots_left (encode c) (encode_utf8_all cs) h in
    let one = encoded_dot c parts.0 in
    let rest = encoded_dots cs parts.1 in
    ((one.0, rest.0), simp length-append (omega arith))

unit_dot : (u : ℕ) → AllDots (shown_unit u) → (u ≡ 46) × (length (shown_unit u) ≡ 1)
unfolding AllDots
unit_dot u = chosen (λ cs. AllDots cs → (u ≡ 46) × (length cs ≡ 1)) (must_escape u) (escape u) (u ∷ []) (λ e h. absurd (omega arith)) (λ e h. (h.0, refl))

shown_dots : (us : List ℕ) → AllDots (shown us) → AllDots us × (length (shown us) ≡ length us)
unfolding shown AllDots
shown_dots [] h = (tt, refl)
shown_dots (u ∷ []) h = let one = unit_dot u h in ((one.0, tt), one.1)
shown_dots (u ∷ v ∷ us) h =
    chosen (λ cs. AllDots cs → AllDots (u ∷ v ∷ us) × (length cs ≡ length (u ∷ v ∷ us))) (is_high_surrogate u && is_low_surrogate v) (surrogate_pair_char u v ∷ shown us) (shown_unit u ++ shown (v ∷ us))
    (λ e k. absurd (omega arith))
    (λ e k. let parts = dots_left (shown_unit u) (shown (v ∷ us)) k in
    let one = unit_dot u parts.0 in
    let rest = shown_dots (v ∷ us) parts.1 in
    ((one.0, rest.0), simp length-append (omega arith))) h

all_dots : (us : List ℕ) → AllDots us → list_all (λ u. u == 46) us ≡ true
unfolding AllDots
all_dots [] h = refl
all_dots (u ∷ us) h = and_true (u == 46) (list_all (λ u. u == 46) us) (eq-eqb u 46 h.0) (all_dots us h.1)

few : (n : ℕ) → n < 3 → nat_lt n 3 ≡ true
few n h = grind (arith, nat_tests)

escapes_no_dots : (us : List ℕ) → 0 < length us → AllDots (encode_utf8_all (flat_map escape us)) → ⊥
unfolding AllDots encode
escapes_no_dots [] l h = absurd (omega arith)
escapes_no_dots (u ∷ us) l h = absurd (omega arith)

few_dots : (us : List ℕ) → 0 < length us → AllDots (escaped us) → length (escaped us) < 3 → ⊥
unfolding escaped
few_dots us l =
    chosen (λ cs. AllDots (encode_utf8_all cs) → length (encode_utf8_all cs) < 3 → ⊥) (is_dots us) (flat_map escape us) (shown us)
    (λ e h k. escapes_no_dots us l h)
    (λ e h k.
    let cs = encoded_dots (shown us) h in
    let all = shown_dots us cs.0 in
    false≢true (sym e ∙ and_true (nat_lt (length us) 3) (list_all (λ u. u == 46) us) (few (length us) (omega arith)) (all_dots us all.0)))

-- an escaped name is a part of a path
pub IsPathPart-escaped : (us : List ℕ) → 0 < length us → IsPathPart (escaped us)
unfolding AllDots
IsPathPart-escaped us l = record {
  plain = escaped_plain us;
  not_empty = λ e. few_dots us l (subst AllDots (sym e) tt) (subst (λ bs. length bs < 3) (sym e) (omega arith));
  not_dot = λ e. few_dots us l (subst AllDots (sym e) (refl, tt)) (subst (λ bs. length bs < 3) (sym e) (omega arith));
  not_dots = λ e. few_dots us l (subst AllDots (sym e) (refl, (refl, tt))) (subst (λ bs. length bs < 3) (sym e) (omega arith));
}
