-- The offsets of bytes in an input.
use Rattle.std.specs.Prelude.{◌≡◌, ℕ, ◌<◌, ◌≤◌, ◌^◌, List, length, take, drop, Option, Some, IfSome, refl}
use Rattle.std.specs.Coded.{Coded, code_by, coded×, coded_list, coded_ℕ}

-- the bytes that were read ahead, and their offset in the input, modulo 2 ^ 64
pub record Ahead : Type 0 where
  pub bytes : List ℕ
  pub at : ℕ

-- it is stored as the pair of its fields
abbrev pub ahead_code : Coded Ahead
ahead_code = code_by (List ℕ × ℕ) (coded× (coded_list coded_ℕ) coded_ℕ) (λ a. (a.bytes, a.at)) (λ p. record { bytes = p.0; at = p.1 }) (λ _. refl)

-- `rest` is what follows the first `at` bytes of the whole input
pub record IsRest (whole : List ℕ) (at : ℕ) (rest : Option (List ℕ)) : Type 0 where
  pub fits : length whole < 2 ^ 64
  pub within : at ≤ length whole
  pub is_rest : rest ≡ Some (drop at whole)

-- where the input is known, `rest` is what follows its first `at` bytes
abbrev pub StandsAt : Option (List ℕ) → ℕ → Option (List ℕ) → Type 0
StandsAt input at rest = IfSome input (λ whole. IsRest whole at rest)

-- an input that had the rest `old` at offset `at` has the rest `new` at offset `next`
abbrev pub MovesOn : ℕ → ℕ → Option (List ℕ) → Option (List ℕ) → Type 0
MovesOn at next old new = (input : Option (List ℕ)) → StandsAt input at old → StandsAt input next new

-- where the input is known, the bytes of this block are at its offset `at`
abbrev pub HasBlockAt : Option (List ℕ) → ℕ → List ℕ → Type 0
HasBlockAt input at bytes = IfSome input (λ whole. take 2048 (drop at whole) ≡ bytes)
