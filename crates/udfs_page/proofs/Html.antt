-- The HTML of a text, character by character.
use Rattle.std.proofs.Common.{◌≡◌, ℕ, ◌==◌, Bool, true, false, cond, List, [], ◌∷◌, ◌++◌, length, codes, refl, sym, ap, ◌∙◌}
use Rattle.std.specs.Char.{encode_utf8}
use Rattle.std.specs.Str.{IsUtf8, chars, encode_utf8_all}
use Rattle.std.proofs.lemmas.Bool.{eqb-true}
use Rattle.std.proofs.lemmas.List.{append_assoc, append-nil, nil_from_length}
use Rattle.std.proofs.lemmas.Str.{chars-nil, chars_past_char, encodes-append}
use Rattle.udfs_page.specs.Escapes.{html_character, html_characters, html_text, is_inert, unescaped, unescaped_after}

-- the HTML of the first character, and that of the rest
html_step : (bs rest : List ℕ) (c : ℕ) → IsUtf8 bs → bs ≡ encode_utf8 c ++ rest → html_text bs ≡ encode_utf8_all (html_character c) ++ html_text rest
unfolding html_text
html_step bs rest c u e =
    ap (λ cs. encode_utf8_all (html_characters cs)) (chars_past_char bs rest c u e) ∙ encodes-append (html_character c) (html_characters (chars rest))

-- a character is appended: what is there and what is left make the same text
pub html_appended : (whole middle new bs rest : List ℕ) (c : ℕ) → IsUtf8 bs → bs ≡ encode_utf8 c ++ rest
    → new ≡ middle ++ encode_utf8_all (html_character c) → middle ++ html_text bs ≡ whole → new ++ html_text rest ≡ whole
html_appended whole middle new bs rest c u e is h =
    rw is (append_assoc middle (encode_utf8_all (html_character c)) (html_text rest) ∙ ap (λ x. middle ++ x) (sym (html_step bs rest c u e)) ∙ h)

-- no character is left
pub html_ended : (whole new bs : List ℕ) → length bs ≡ 0 → new ++ html_text bs ≡ whole → new ≡ whole
unfolding html_text
html_ended whole new bs e h =
    let none : html_text bs ≡ [] = ap (λ cs. encode_utf8_all (html_characters (chars cs))) (nil_from_length bs e) ∙ ap (λ cs. encode_utf8_all (html_characters cs)) chars-nil in
    sym (append-nil new) ∙ ap (λ x. new ++ x) (sym none) ∙ h

-- ---- the laws

inert_one : (c : ℕ) (rest : List ℕ) (a b d e f : Bool) → (c == 60) ≡ a → (c == 62) ≡ b → (c == 38) ≡ d → (c == 34) ≡ e → (c == 39) ≡ f
    → is_inert (cond a (codes "&lt;") (cond b (codes "&gt;") (cond d (codes "&amp;") (cond e (codes "&quot;") (cond f (codes "&#39;") (c ∷ []))))) ++ rest) ≡ is_inert rest
inert_one c rest true b d e f ia ib id ie is = refl
inert_one c rest false true d e f ia ib id ie is = refl
inert_one c rest false false true e f ia ib id ie is = refl
inert_one c rest false false false true f ia ib id ie is = refl
inert_one c rest false false false false true ia ib id ie is = refl
inert_one c rest false false false false false ia ib id ie is = rw (ia, ib, id, ie, is) refl

-- the HTML of any characters is inert
pub inert : (cs : List ℕ) → is_inert (html_characters cs) ≡ true
inert [] = refl
inert (c ∷ cs) = inert_one c (html_characters cs) _ _ _ _ _ refl refl refl refl refl ∙ inert cs

back_one : (c : ℕ) (rest : List ℕ) (a b d e f : Bool) → (c == 60) ≡ a → (c == 62) ≡ b → (c == 38) ≡ d → (c == 34) ≡ e → (c == 39) ≡ f
    → unescaped_after 0 (cond a (codes "&lt;") (cond b (codes "&gt;") (cond d (codes "&amp;") (cond e (codes "&quot;") (cond f (codes "&#39;") (c ∷ []))))) ++ rest) ≡ c ∷ unescaped_after 0 rest
back_one c rest true b d e f ia ib id ie is = ap (λ x. x ∷ unescaped_after 0 rest) (sym (eqb-true c 60 ia))
back_one c rest false true d e f ia ib id ie is = ap (λ x. x ∷ unescaped_after 0 rest) (sym (eqb-true c 62 ib))
back_one c rest false false true e f ia ib id ie is = ap (λ x. x ∷ unescaped_after 0 rest) (sym (eqb-true c 38 id))
back_one c rest false false false true f ia ib id ie is = ap (λ x. x ∷ unescaped_after 0 rest) (sym (eqb-true c 34 ie))
back_one c rest false false false false true ia ib id ie is = ap (λ x. x ∷ unescaped_after 0 rest) (sym (eqb-true c 39 is))
back_one c rest false false false false false ia ib id ie is = rw id refl

-- the HTML of characters gives them back
pub back : (cs : List ℕ) → unescaped (html_characters cs) ≡ cs
back [] = refl
back (c ∷ cs) = back_one c (html_characters cs) _ _ _ _ _ refl refl refl refl refl ∙ ap (λ x. c ∷ x) (back cs)
