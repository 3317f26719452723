-- Tests in order, each with its fault: the first test that holds decides.
--     first_fault tests       the fault of the first test that holds
--     is_within low high n    whether low ≤ n ≤ high
use Rattle.std.specs.Prelude.{ℕ, Bool, false, List, [], ◌∷◌, cond, Option, Some, None, nat_le}

-- the fault of the first test that holds
abbrev pub first_fault : {F : Type 0} → List (Bool × F) → Option F
first_fault [] = None
first_fault (test ∷ tests) = cond test.0 (Some test.1) (first_fault tests)

-- whether low ≤ n ≤ high
abbrev pub is_within : ℕ → ℕ → ℕ → Bool
is_within low high n = cond (nat_le low n) (nat_le n high) false
