-- Names in compressed Unicode (OSTA UDF 2.1.1).
--     units_of bytes       the units of a name, or its first fault
--     fault_of given       the fault, if it is one
--     AreUnits units       what a unit is: a number of 16 bits
use Rattle.std.specs.Prelude.{◌≡◌, ℕ, ◌+◌, ◌*◌, ◌%◌, ◌<◌, ◌^◌, ◌==◌, ◌||◌, List, [], ◌∷◌, length, Option, Some, None, Result, Ok, Err, IsOk, if◌then◌else◌}
use Rattle.std.specs.List.{All}
use Rattle.udfs_osta.specs.declared.names.NameFault.{NameFault}
use Rattle.udfs_osta.specs.declared.names.NameFault.TheVariants.{Empty, Compression, Odd, OutOfMemory}

-- units are numbers of 16 bits
abbrev pub AreUnits : List ℕ → Type 0
AreUnits units = All (λ u. u < 2 ^ 16) units

-- what the units of every name are: at least one, each of 16 bits
pub record IsName (units : List ℕ) : Type 0 where
  pub some : 0 < length units
  pub range : AreUnits units

-- two bytes a unit, the high byte first
abbrev pub pair_units : List ℕ → List ℕ
pair_units [] = []
pair_units (b ∷ []) = []
pair_units (high ∷ low ∷ rest) = (high * 256 + low) ∷ pair_units rest

-- the units after the first byte, which is 8 or 16: none is a fault, and so is an odd number of bytes after 16
abbrev pub units_after : ℕ → List ℕ → Result (List ℕ) NameFault
units_after kind [] = Err Empty
units_after kind (b ∷ bs) =
    if kind == 8 then Ok (b ∷ bs)
    else if length (b ∷ bs) % 2 == 1 then Err Odd
    else Ok (pair_units (b ∷ bs))

-- the units of a name, or its first fault
abbrev pub units_of : List ℕ → Result (List ℕ) NameFault
units_of [] = Err Empty
units_of (kind ∷ rest) = if kind == 8 || kind == 16 then units_after kind rest else Err Compression

-- the fault of a name that has one
abbrev pub fault_of : Result (List ℕ) NameFault → Option NameFault
fault_of (Ok units) = None
fault_of (Err fault) = Some fault

-- the result is what the bytes give; memory can run out only where they give units, never where there is a fault to report
abbrev pub GivesUnits : Result (List ℕ) NameFault → Result (List ℕ) NameFault → Type 0
GivesUnits (Ok name) given = given ≡ Ok name
GivesUnits (Err OutOfMemory) given = IsOk given
GivesUnits (Err Empty) given = given ≡ Err Empty
GivesUnits (Err Compression) given = given ≡ Err Compression
GivesUnits (Err Odd) given = given ≡ Err Odd
