-- Text in HTML.
--     html_text text           the text, with references in place of the characters that mean something to HTML
--     is_inert characters      HTML that can neither begin nor end an element or an attribute
--     unescaped characters     HTML with its references replaced by the characters that they represent
use Rattle.std.specs.Prelude.{ℕ, ◌-◌, ◌==◌, ◌&&◌, ◌||◌, not, Bool, true, nat_lt, List, [], ◌∷◌, codes, take, length, chars, if◌then◌else◌}
use Rattle.std.specs.List.{flat_map}
use Rattle.std.specs.Str.{bytes_eq, encode_utf8_all}

-- `<` (60), `>` (62), `&` (38), `"` (34) and `'` (39) are written as references
abbrev pub html_character : ℕ → List ℕ
html_character c =
    if c == 60 then codes "&lt;"
    else if c == 62 then codes "&gt;"
    else if c == 38 then codes "&amp;"
    else if c == 34 then codes "&quot;"
    else if c == 39 then codes "&#39;"
    else c ∷ []

-- each character, or its reference
abbrev pub html_characters : List ℕ → List ℕ
html_characters characters = flat_map html_character characters

-- the HTML of a text, in UTF-8
unfoldable pub html_text : List ℕ → List ℕ
html_text text = encode_utf8_all (html_characters (chars text))

-- a line feed (10) ends a division and begins the next
abbrev pub line_character : ℕ → List ℕ
line_character c = if c == 10 then codes "</div>\n<div>" else html_character c

-- the HTML of a text of several lines, for the inside of a division: each line feed ends one and begins the next
unfoldable pub html_lines : List ℕ → List ℕ
html_lines text = encode_utf8_all (flat_map line_character (chars text))

-- ---- what a browser reads

-- the characters begin with these
abbrev pub begins : List ℕ → List ℕ → Bool
begins front characters = bytes_eq (take (length front) characters) front

-- what follows an `&` is the rest of one of the five references
abbrev pub is_reference : List ℕ → Bool
is_reference characters =
    begins (codes "lt;") characters || begins (codes "gt;") characters || begins (codes "amp;") characters
    || begins (codes "quot;") characters || begins (codes "#39;") characters

-- no `<`, `>`, `"` or `'`, and each `&` begins a reference
abbrev pub is_inert : List ℕ → Bool
is_inert [] = true
is_inert (c ∷ cs) = not (c == 60 || c == 62 || c == 34 || c == 39) && (not (c == 38) || is_reference cs) && is_inert cs

-- the character that a reference represents, by what follows its `&`
abbrev pub referred : List ℕ → ℕ
referred cs =
    if begins (codes "lt;") cs then 60
    else if begins (codes "gt;") cs then 62
    else if begins (codes "amp;") cs then 38
    else if begins (codes "quot;") cs then 34
    else 39

-- how many characters of the reference follow its `&`
abbrev pub reference_length : List ℕ → ℕ
reference_length cs =
    if begins (codes "lt;") cs || begins (codes "gt;") cs then 3
    else if begins (codes "quot;") cs then 5
    else 4

-- the characters after the first `skip`, with references replaced by the characters that they represent
abbrev pub unescaped_after : ℕ → List ℕ → List ℕ
unescaped_after skip [] = []
unescaped_after skip (c ∷ cs) =
    if nat_lt 0 skip then unescaped_after (skip - 1) cs
    else if c == 38 then referred cs ∷ unescaped_after (reference_length cs) cs
    else c ∷ unescaped_after 0 cs

-- HTML with its references replaced by the characters that they represent
abbrev pub unescaped : List ℕ → List ℕ
unescaped characters = unescaped_after 0 characters
