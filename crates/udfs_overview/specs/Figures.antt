-- Figures as people read them.
--     grouped n               `5,120`
--     size_text n             `999 B`, `888.8 kB`, `10.5 MB`
--     percent_text part whole `5.3 %`
use Rattle.std.specs.Prelude.{ℕ, ◌+◌, ◌*◌, ◌/◌, ◌%◌, ◌^◌, ◌==◌, nat_lt, Bool, List, [], ◌∷◌, ◌++◌, length, if◌then◌else◌, codes, decimal}

-- a comma (44) after each digit that is followed by a positive multiple of three digits
abbrev pub with_commas : List ℕ → List ℕ
with_commas [] = []
with_commas (d ∷ []) = d ∷ []
with_commas (d ∷ e ∷ ds) = if length (e ∷ ds) % 3 == 0 then d ∷ 44 ∷ with_commas (e ∷ ds) else d ∷ with_commas (e ∷ ds)

-- a number with its digits in groups of three
unfoldable pub grouped : ℕ → List ℕ
grouped n = with_commas (decimal n)

-- a quotient, rounded to the next whole number; a half is rounded up
abbrev pub rounded : ℕ → ℕ → ℕ
rounded a b = (2 * a + b) / (2 * b)

-- tenths, with one digit after the point
abbrev pub tenths_text : ℕ → List ℕ
tenths_text tenths = decimal (tenths / 10) ++ codes "." ++ decimal (tenths % 10)

-- a size in tenths of a unit; the first unit is 1,000 bytes, and each further one 1,000 times the one before
abbrev pub tenths_in : ℕ → ℕ → ℕ
tenths_in size unit = rounded (10 * size) (1000 ^ unit)

-- the figure in this unit is below 1000.0
abbrev pub is_short_in : ℕ → ℕ → Bool
is_short_in size unit = nat_lt (tenths_in size unit) 10000

-- the first of eight units in which the figure is below 1000.0, or the eighth if it is in no unit
unfoldable pub unit_of : ℕ → ℕ
unit_of size =
    if is_short_in size 1 then 1
    else if is_short_in size 2 then 2
    else if is_short_in size 3 then 3
    else if is_short_in size 4 then 4
    else if is_short_in size 5 then 5
    else if is_short_in size 6 then 6
    else if is_short_in size 7 then 7
    else 8

-- the names of the units
abbrev pub unit_name : ℕ → List ℕ
unit_name unit =
    if unit == 1 then codes "kB"
    else if unit == 2 then codes "MB"
    else if unit == 3 then codes "GB"
    else if unit == 4 then codes "TB"
    else if unit == 5 then codes "PB"
    else if unit == 6 then codes "EB"
    else if unit == 7 then codes "ZB"
    else codes "YB"

-- a size: plain bytes below 1,000, else one digit after the point in its unit
unfoldable pub size_text : ℕ → List ℕ
size_text size =
    if nat_lt size 1000 then decimal size ++ codes " B"
    else tenths_text (tenths_in size (unit_of size)) ++ codes " " ++ unit_name (unit_of size)

-- a part in hundredths of the whole, one digit after the point
unfoldable pub percent_text : ℕ → ℕ → List ℕ
percent_text part whole = tenths_text (rounded (1000 * part) whole) ++ codes " %"
