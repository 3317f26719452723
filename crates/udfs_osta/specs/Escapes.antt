-- The escaped form of a name.
--     escaped units        the escaped form, in UTF-8
use Rattle.std.specs.Fmt.{digit_glyph}
use Rattle.std.specs.Prelude.{ℕ, true, ◌+◌, ◌/◌, ◌%◌, ◌==◌, ◌&&◌, ◌||◌, Bool, nat_lt, nat_le, List, [], ◌∷◌, ◌++◌, length, if◌then◌else◌}
use Rattle.std.specs.List.{flat_map, list_all}
use Rattle.std.specs.Str.{encode_utf8_all}
use Rattle.std.specs.Char.Utf16.{is_high_surrogate, is_low_surrogate, surrogate_pair_char}

-- `\uXXXX`
abbrev pub escape : ℕ → List ℕ
escape unit =
    92 ∷ 117 ∷ digit_glyph true (unit / 4096) ∷ digit_glyph true (unit / 256 % 16) ∷ digit_glyph true (unit / 16 % 16)
    ∷ digit_glyph true (unit % 16) ∷ []

-- controls, `/` (2F), `\` (5C) and surrogates: asked of a unit that is half of no pair
abbrev pub must_escape : ℕ → Bool
must_escape unit =
    nat_lt unit 0x20 || unit == 0x7F || unit == 0x2F || unit == 0x5C || (nat_le 0xD800 unit && nat_lt unit 0xE000)

-- the characters that are written for a unit in no pair
abbrev pub shown_unit : ℕ → List ℕ
shown_unit unit = if must_escape unit then escape unit else unit ∷ []

-- the characters that are written for units, pairs joined
unfoldable pub shown : List ℕ → List ℕ
shown [] = []
shown (u ∷ []) = shown_unit u
shown (u ∷ v ∷ us) =
    if is_high_surrogate u && is_low_surrogate v then surrogate_pair_char u v ∷ shown us
    else shown_unit u ++ shown (v ∷ us)

-- there is nothing but dots, and at most two: of names these are `.` and `..`
abbrev pub is_dots : List ℕ → Bool
is_dots units = nat_lt (length units) 3 && list_all (λ u. u == 46) units

-- the escaped form, in UTF-8: the units as characters, but each dot of `.` and `..` by its escape
unfoldable pub escaped : List ℕ → List ℕ
escaped units = encode_utf8_all (if is_dots units then flat_map escape units else shown units)
