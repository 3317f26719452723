-- Names as a person is shown them: the escaped form, with characters also escaped that change the direction of
-- text, separate its lines or control a terminal.
--     safe_name units      the text, in UTF-8
use Rattle.std.specs.Prelude.{◌≡◌, ◌≢◌, ℕ, ◌≤◌, ◌==◌, ◌&&◌, ◌||◌, Bool, false, nat_le, List, [], ◌∷◌, ◌++◌, if◌then◌else◌}
use Rattle.std.specs.List.{flat_map}
use Rattle.std.specs.Str.{encode_utf8_all}
use Rattle.std.specs.Char.Utf16.{is_high_surrogate, is_low_surrogate, surrogate_pair_char}
use Rattle.udfs_osta.specs.Escapes.{escape, must_escape, is_dots}

-- U+007F to U+009F are controls; U+061C, U+200E, U+200F, U+202A to U+202E and U+2066 to U+2069 turn the direction of text;
-- U+2028 and U+2029 part lines and paragraphs
abbrev pub is_unsafe : ℕ → Bool
is_unsafe c =
    (nat_le 0x7F c && nat_le c 0x9F) || c == 0x61C || c == 0x200E || c == 0x200F
    || (nat_le 0x2028 c && nat_le c 0x202E) || (nat_le 0x2066 c && nat_le c 0x2069)

-- the characters of an unpaired unit: itself, or its escape
abbrev pub safe_unit : ℕ → List ℕ
safe_unit unit = if must_escape unit || is_unsafe unit then escape unit else unit ∷ []

-- the characters of units, surrogate pairs joined
unfoldable pub safe_units : List ℕ → List ℕ
safe_units [] = []
safe_units (u ∷ []) = safe_unit u
safe_units (u ∷ v ∷ us) =
    if is_high_surrogate u && is_low_surrogate v then surrogate_pair_char u v ∷ safe_units us
    else safe_unit u ++ safe_units (v ∷ us)

-- the characters of a name: each dot of `.` and `..` by its escape
abbrev pub safe_characters : List ℕ → List ℕ
safe_characters units = if is_dots units then flat_map escape units else safe_units units

-- the text of a name
unfoldable pub safe_name : List ℕ → List ℕ
safe_name units = encode_utf8_all (safe_characters units)

-- what each character of such a text is: no control below U+0020, no `/` (47) and none of those above
pub record IsSafe (c : ℕ) : Type 0 where
  pub no_control : 32 ≤ c
  pub no_slash : c ≢ 47
  pub not_unsafe : is_unsafe c ≡ false
