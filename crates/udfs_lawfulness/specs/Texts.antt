-- Timestamps and dstrings, by their tables (ECMA-167 1/7.2.12, 1/7.3).
--     HasStampFields bytes f      the fields of a timestamp
--     IsDstring bytes label       what a dstring of 128 bytes says
use Rattle.std.specs.Prelude.{◌≢◌, ℕ, ◌<◌, ◌≤◌, ◌⊎◌, List, [], ◌∷◌}
use Rattle.udfs_osta.specs.declared.labels.Label.{Label}
use Rattle.udfs_osta.specs.declared.labels.Label.TheVariants.{Empty, Name, Invalid}
use Rattle.udfs_lawfulness.specs.Identifiers.{AreCharacters}
use Rattle.udfs_lawfulness.specs.LawfulTables.{Row, row, HasBits, Holds, IsField}

-- type and time zone; year
abbrev pub stamp_zone : Row
stamp_zone = row 0 2

-- the year
abbrev pub stamp_year : Row
stamp_year = row 2 2

-- a timestamp: type and time zone, year, month, day, hour, minute, second, centiseconds, hundreds of microseconds, microseconds
abbrev pub stamp_rows : List Row
stamp_rows = stamp_zone ∷ stamp_year ∷ row 4 1 ∷ row 5 1 ∷ row 6 1 ∷ row 7 1 ∷ row 8 1 ∷ row 9 1 ∷ row 10 1 ∷ row 11 1 ∷ []

-- The fields of a timestamp; the zone as twelve bits.
pub record StampFields : Type 0 where
  pub kind : ℕ
  pub zone : ℕ
  pub year : ℕ
  pub month : ℕ
  pub day : ℕ
  pub hour : ℕ
  pub minute : ℕ
  pub second : ℕ
  pub centiseconds : ℕ
  pub hundreds : ℕ
  pub microseconds : ℕ

-- the fields by the table: the type is the high four bits of the first row, and the zone the low twelve (1/7.3.1)
pub record HasStampFields (bytes : List ℕ) (f : StampFields) : Type 0 where
  pub first : ℕ
  pub first_is : Holds bytes stamp_zone first
  pub kind_is : HasBits 12 4 first f.kind
  pub zone_is : HasBits 0 12 first f.zone
  pub year_is : Holds bytes stamp_year f.year
  pub month_is : Holds bytes (row 4 1) f.month
  pub day_is : Holds bytes (row 5 1) f.day
  pub hour_is : Holds bytes (row 6 1) f.hour
  pub minute_is : Holds bytes (row 7 1) f.minute
  pub second_is : Holds bytes (row 8 1) f.second
  pub centiseconds_are : Holds bytes (row 9 1) f.centiseconds
  pub hundreds_are : Holds bytes (row 10 1) f.hundreds
  pub microseconds_are : Holds bytes (row 11 1) f.microseconds

-- the last byte of a dstring: how many of the bytes before it are used
abbrev pub dstring_length : Row
dstring_length = row 127 1

-- the text of a dstring is its first bytes
abbrev pub HasText : List ℕ → ℕ → (List ℕ → Type 0) → Type 0
HasText bytes count P = (count ≤ 127) × ((text : List ℕ) × IsField bytes (row 0 count) text × P text)

-- what a dstring says: nothing where no byte is used, a name where those that are used are one, and else it is not valid
abbrev pub IsDstring : List ℕ → Label → Type 0
IsDstring bytes Empty = Holds bytes dstring_length 0
IsDstring bytes (Name units) = (count : ℕ) × Holds bytes dstring_length count × (count ≢ 0) × HasText bytes count (λ text. AreCharacters text units)
IsDstring bytes Invalid = (count : ℕ) × Holds bytes dstring_length count × (count ≢ 0)
    × ((127 < count) ⊎ HasText bytes count (λ text. (units : List ℕ) → ¬ AreCharacters text units))
