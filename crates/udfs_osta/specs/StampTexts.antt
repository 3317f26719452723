-- The printed form of a time, as ISO 8601 has it.
--     stamp_text stamp     `YYYY-MM-DDTHH:MM:SS.ffffffZ`, without `Z` for a local time, or `invalid`
use Rattle.std.specs.Prelude.{◌≡◌, ℕ, zero, suc, ◌+◌, ◌-◌, ◌*◌, ◌/◌, ◌%◌, ◌&&◌, nat_lt, Bool, true, List, [], ◌∷◌, ◌++◌, slice_index, ℤ, pos, neg_ℤ, ◌+ℤ◌, int_le, unsigned_abs, codes, if◌then◌else◌}
use Rattle.jiff_core.specs.Calendar.{days_in_year, days_in_month}
use Rattle.udfs_osta.specs.declared.stamps.Stamp.{Stamp}
use Rattle.udfs_osta.specs.declared.stamps.Stamp.TheVariants.{Utc, Local, Invalid}
use Rattle.udfs_osta.specs.Stamps.{year_of, fraction_micros}

-- a date, with month and day counted from 1
pub record CivilDate : Type 0 where
  pub year : ℕ
  pub month : ℕ
  pub day : ℕ

-- the date this many days after the first of a month: whole months are taken off, at most as many as the first number says
unfoldable pub date_in_months : ℕ → ℕ → ℕ → ℕ → CivilDate
date_in_months zero year month days = record { year = year; month = month; day = days + 1 }
date_in_months (suc more) year month days =
    if nat_lt days (days_in_month (pos year) month) then record { year = year; month = month; day = days + 1 }
    else date_in_months more year (month + 1) (days - days_in_month (pos year) month)

-- the date this many days after 1 January of a year: whole years are taken off, at most as many as the first number says
unfoldable pub date_in_years : ℕ → ℕ → ℕ → CivilDate
date_in_years zero year days = date_in_months 11 year 1 days
date_in_years (suc more) year days =
    if nat_lt days (days_in_year (pos year)) then date_in_months 11 year 1 days
    else date_in_years more (year + 1) (days - days_in_year (pos year))

-- the date `days` days after 0000-01-01, up to the year 9999
unfoldable pub civil_date : ℕ → CivilDate
civil_date days = date_in_years 9999 0 days

-- the days from 0000-01-01 to 1970-01-01
abbrev pub days_before_1970 : ℕ
days_before_1970 = 719_528

-- a number below 100 in two decimal digits
abbrev pub two_digits : ℕ → List ℕ
two_digits n = (48 + n / 10) ∷ (48 + n % 10) ∷ []

-- a number below 10000 in four decimal digits
abbrev pub four_digits : ℕ → List ℕ
four_digits n = two_digits (n / 100) ++ two_digits (n % 100)

-- a number below 1000000 in six decimal digits
abbrev pub six_digits : ℕ → List ℕ
six_digits n = two_digits (n / 10000) ++ two_digits (n / 100 % 100) ++ two_digits (n % 100)

-- `YYYY-MM-DD`
abbrev pub date_text : CivilDate → List ℕ
date_text date =
    four_digits date.year ++ codes "-" ++ two_digits date.month ++ codes "-" ++ two_digits date.day

-- `HH:MM:SS.ffffff`
abbrev pub time_text : ℕ → ℕ → ℕ → ℕ → List ℕ
time_text hour minute second fraction =
    two_digits hour ++ codes ":" ++ two_digits minute ++ codes ":" ++ two_digits second ++ codes "."
    ++ six_digits fraction

-- `HH:MM:SS.ffffff` at `micros` microseconds after midnight
abbrev pub clock_text : ℕ → List ℕ
clock_text micros =
    time_text (micros / 3_600_000_000) (micros / 60_000_000 % 60) (micros / 1_000_000 % 60) (micros % 1_000_000)

-- microseconds from 0000-01-01T00:00:00, of a moment given from 1970-01-01T00:00:00
abbrev pub micros_from_0000 : ℤ → ℕ
micros_from_0000 micros = unsigned_abs (micros +ℤ pos (days_before_1970 * 86_400_000_000))

-- what a clock shows at a moment
unfoldable pub moment_text : ℤ → List ℕ
moment_text micros =
    date_text (civil_date (micros_from_0000 micros / 86_400_000_000)) ++ codes "T"
    ++ clock_text (micros_from_0000 micros % 86_400_000_000)

-- the moment lies between 0000-01-01T00:00:00 and 9999-12-30T22:00:00.999999, where jiff's instants end. The time of
-- every timestamp does.
abbrev pub is_shown : ℤ → Bool
is_shown micros =
    int_le (neg_ℤ (pos 62_167_219_200_000_000)) micros && int_le micros (pos 253_402_207_200_999_999)

-- the moment has a text: it lies in the years that can be printed
abbrev pub IsShown : Stamp → Type 0
IsShown (Utc micros) = is_shown micros ≡ true
IsShown (Local micros) = is_shown micros ≡ true
IsShown Invalid = Unit {0}

-- what a clock shows at a moment, and an ending. A moment outside that range, which no timestamp gives, is `invalid`.
abbrev pub ended_text : ℤ → List ℕ → List ℕ
ended_text micros ending = if is_shown micros then moment_text micros ++ ending else codes "invalid"

-- the printed form
unfoldable pub stamp_text : Stamp → List ℕ
stamp_text (Utc micros) = ended_text micros (codes "Z")
stamp_text (Local micros) = ended_text micros (codes "")
stamp_text Invalid = codes "invalid"

-- the date and the time of day as the bytes of a timestamp have them
abbrev pub fields_text : List ℕ → List ℕ
fields_text bytes =
    date_text (record { year = year_of bytes; month = slice_index bytes 4; day = slice_index bytes 5 }) ++ codes "T"
    ++ time_text (slice_index bytes 6) (slice_index bytes 7) (slice_index bytes 8) (fraction_micros bytes)
