-- The units of a name are numbers of 16 bits.
use Rattle.std.proofs.Common.{◌≡◌, ℕ, ◌%◌, ◌<◌, ◌^◌, ◌==◌, ◌||◌, List, [], ◌∷◌, length, subst, arith}
use Rattle.std.specs.Prelude.{Result, Ok}
use Rattle.std.specs.List.{All, AllByRecursion}
use Rattle.std.proofs.lemmas.List.Elements.{All-from_recursion, recursion_from_All}
use Rattle.std.proofs.lemmas.Bool.Decides.{nat_tests}
use Rattle.udfs_osta.specs.declared.names.NameFault.{NameFault}
use Rattle.udfs_osta.specs.Names.{AreUnits, IsName, pair_units, units_after, units_of}
use Rattle.udfs_osta.proofs.Choices.{chosen}

abbrev ByteByByte : List ℕ → Type 0
ByteByByte bs = AllByRecursion (λ b. b < 2 ^ 8) bs

abbrev UnitByUnit : List ℕ → Type 0
UnitByUnit us = AllByRecursion (λ u. u < 2 ^ 16) us

bytes_as_units : (bs : List ℕ) → ByteByByte bs → UnitByUnit bs
bytes_as_units [] h = tt
bytes_as_units (b ∷ bs) h = (omega arith, bytes_as_units bs h.1)

pairs_as_units : (bs : List ℕ) → ByteByByte bs → UnitByUnit (pair_units bs)
pairs_as_units [] h = tt
pairs_as_units (b ∷ []) h = tt
pairs_as_units (high ∷ low ∷ bs) h = (omega arith, pairs_as_units bs h.1.1)

-- an even number of bytes, and some, are some units
some_pairs : (bs : List ℕ) → 0 < length bs → length bs % 2 ≡ 0 → 0 < length (pair_units bs)
some_pairs [] h e = h
some_pairs (b ∷ []) h e = absurd (omega arith)
some_pairs (high ∷ low ∷ bs) h e = omega arith

all_units : (us : List ℕ) → UnitByUnit us → AreUnits us
all_units us h = All-from_recursion (λ u. u < 2 ^ 16) us h

-- what is wanted of an answer
abbrev IsNameIfOk : List ℕ → Result (List ℕ) NameFault → Type 0
IsNameIfOk units r = r ≡ Ok units → IsName units

from_after : (kind : ℕ) (bs units : List ℕ) → ByteByByte bs → IsNameIfOk units (units_after kind bs)
from_after kind [] units h e = cc
from_after kind (b ∷ bs) units h e =
    chosen (IsNameIfOk units) (kind == 8) _ _
    (λ t f. let same : b ∷ bs ≡ units = cc in subst IsName same (record { some = omega arith; range = all_units (b ∷ bs) (bytes_as_units (b ∷ bs) h) }))
    (λ t. chosen (IsNameIfOk units) (length (b ∷ bs) % 2 == 1) _ _
    (λ o f. cc)
    (λ o f. let same : pair_units (b ∷ bs) ≡ units = cc in
    let even : length (b ∷ bs) % 2 ≡ 0 = grind (arith, nat_tests) in
    subst IsName same (record { some = some_pairs (b ∷ bs) (omega arith) even; range = all_units (pair_units (b ∷ bs)) (pairs_as_units (b ∷ bs) h) }))) e

from_units_of : (bs units : List ℕ) → ByteByByte bs → IsNameIfOk units (units_of bs)
from_units_of [] units h e = cc
from_units_of (kind ∷ rest) units h e =
    chosen (IsNameIfOk units) (kind == 8 || kind == 16) _ _ (λ t. from_after kind rest units h.1) (λ t f. cc) e

pub IsName-units_of : (bytes units : List ℕ) → All (λ b. b < 2 ^ 8) bytes → units_of bytes ≡ Ok units → IsName units
IsName-units_of bytes units h e = from_units_of bytes units (recursion_from_All (λ b. b < 2 ^ 8) bytes h) e

-- ---- of any bytes
abbrev AreSomeIfOk : List ℕ → Result (List ℕ) NameFault → Type 0
AreSomeIfOk units r = r ≡ Ok units → 0 < length units

some_after : (kind : ℕ) (bs units : List ℕ) → AreSomeIfOk units (units_after kind bs)
some_after kind [] units e = cc
some_after kind (b ∷ bs) units e =
    chosen (AreSomeIfOk units) (kind == 8) _ _
    (λ t f. let same : b ∷ bs ≡ units = cc in subst (λ z. 0 < length z) same (omega arith))
    (λ t. chosen (AreSomeIfOk units) (length (b ∷ bs) % 2 == 1) _ _
    (λ o f. cc)
    (λ o f. let same : pair_units (b ∷ bs) ≡ units = cc in
    let even : length (b ∷ bs) % 2 ≡ 0 = grind (arith, nat_tests) in
    subst (λ z. 0 < length z) same (some_pairs (b ∷ bs) (omega arith) even))) e

-- the units of a name are some
pub some_units : (bytes units : List ℕ) → units_of bytes ≡ Ok units → 0 < length units
some_units [] units e = cc
some_units (kind ∷ rest) units e = chosen (AreSomeIfOk units) (kind == 8 || kind == 16) _ _ (λ t. some_after kind rest units) (λ t f. cc) e
