-- The lines of a manifest, as `sha256sum` writes and reads them.
--     must_escape byte          a byte of a path that is written with a backslash
--     path_text path            the path, with backslashes
--     sum_line digest path      the line of a file with this digest at this path
--     begins_as_sums bytes      the beginning of a manifest: such a line's digest and its spaces, or nothing at all
use Rattle.std.specs.Prelude.{ℕ, ◌==◌, ◌||◌, ◌&&◌, Bool, true, false, nat_le, List, [], ◌∷◌, ◌++◌, codes, flat_map, if◌then◌else◌}
use Rattle.std.specs.List.{list_any}
use Rattle.hex.specs.Hex.{encode_lower}

-- a backslash (92), a line feed (10) and a carriage return (13)
abbrev pub must_escape : ℕ → Bool
must_escape b = b == 92 || b == 10 || b == 13

-- two backslashes for one; a backslash and `n` for a line feed, and a backslash and `r` for a carriage return
abbrev pub path_byte : ℕ → List ℕ
path_byte b =
    if b == 92 then 92 ∷ 92 ∷ []
    else if b == 10 then 92 ∷ 110 ∷ []
    else if b == 13 then 92 ∷ 114 ∷ []
    else b ∷ []

-- a path in which each backslash, line feed and carriage return is escaped
abbrev pub path_text : List ℕ → List ℕ
path_text path = flat_map path_byte path

-- the backslash at the beginning of a line whose path has one of these bytes
abbrev pub mark : List ℕ → List ℕ
mark path = if list_any must_escape path then 92 ∷ [] else []

-- the digest in hexadecimal, two spaces, and the path
abbrev pub sum_line : List ℕ → List ℕ → List ℕ
sum_line digest path = mark path ++ encode_lower digest ++ codes "  " ++ path_text path ++ 10 ∷ []

-- ---- what an old manifest begins with

-- a digit or a letter from `a` to `f`
abbrev pub is_digit : ℕ → Bool
is_digit b = (nat_le 48 b && nat_le b 57) || (nat_le 97 b && nat_le b 102)

-- the byte matches this sign: `0` matches any hexadecimal digit in lower case, and any other sign itself
abbrev pub fits : ℕ → ℕ → Bool
fits sign b = if sign == 48 then is_digit b else b == sign

-- the bytes begin with bytes that match these signs
abbrev pub begins_by : List ℕ → List ℕ → Bool
begins_by [] bytes = true
begins_by (sign ∷ signs) [] = false
begins_by (sign ∷ signs) (b ∷ bytes) = if fits sign b then begins_by signs bytes else false

-- the signs of a digest and of what follows it: 64 digits, and two spaces
abbrev pub sum_signs : List ℕ
sum_signs = codes "0000000000000000000000000000000000000000000000000000000000000000  "

-- the same after the first digit
abbrev pub more_signs : List ℕ
more_signs = codes "000000000000000000000000000000000000000000000000000000000000000  "

-- nothing; or a digest and two spaces, perhaps after a backslash
abbrev pub begins_as_sums : List ℕ → Bool
begins_as_sums [] = true
begins_as_sums (b ∷ bytes) = if b == 92 then begins_by sum_signs bytes else if is_digit b then begins_by more_signs bytes else false
