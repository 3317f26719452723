-- The HTML of a text of several lines, character by character.
use Rattle.std.proofs.Common.{◌≡◌, ℕ, List, [], ◌++◌, length, sym, ap, ◌∙◌}
use Rattle.std.specs.Char.{encode_utf8}
use Rattle.std.specs.List.{flat_map}
use Rattle.std.specs.Str.{IsUtf8, chars, encode_utf8_all}
use Rattle.std.proofs.lemmas.List.{append_assoc, append-nil, nil_from_length}
use Rattle.std.proofs.lemmas.Str.{chars-nil, chars_past_char, encodes-append}
use Rattle.udfs_page.specs.Escapes.{html_lines, line_character}

-- the HTML of the first character, and that of the rest
lines_step : (bs rest : List ℕ) (c : ℕ) → IsUtf8 bs → bs ≡ encode_utf8 c ++ rest → html_lines bs ≡ encode_utf8_all (line_character c) ++ html_lines rest
unfolding html_lines
lines_step bs rest c u e =
    ap (λ cs. encode_utf8_all (flat_map line_character cs)) (chars_past_char bs rest c u e) ∙ encodes-append (line_character c) (flat_map line_character (chars rest))

-- a character is appended: what is there and what is left make the same text
pub lines_appended : (whole middle new bs rest : List ℕ) (c : ℕ) → IsUtf8 bs → bs ≡ encode_utf8 c ++ rest
    → new ≡ middle ++ encode_utf8_all (line_character c) → middle ++ html_lines bs ≡ whole → new ++ html_lines rest ≡ whole
lines_appended whole middle new bs rest c u e is h =
    rw is (append_assoc middle (encode_utf8_all (line_character c)) (html_lines rest) ∙ ap (λ x. middle ++ x) (sym (lines_step bs rest c u e)) ∙ h)

-- no character is left
pub lines_ended : (whole new bs : List ℕ) → length bs ≡ 0 → new ++ html_lines bs ≡ whole → new ≡ whole
unfolding html_lines
lines_ended whole new bs e h =
    let none : html_lines bs ≡ [] =
    ap (λ cs. encode_utf8_all (flat_map line_character (chars cs))) (nil_from_length bs e) ∙ ap (λ cs. encode_utf8_all (flat_map line_character cs)) chars-nil in
    sym (append-nil new) ∙ ap (λ x. new ++ x) (sym none) ∙ h
