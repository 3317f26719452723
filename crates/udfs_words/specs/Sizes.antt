-- Sizes as they are given: a number, and a unit after it.
--     IsCount text unit bytes size     the text is a number of such units, each of so many bytes, and this is the size
--     IsSize text size                 the same with one of the units that there are
--     HasOneSize                       no text is of two sizes
use Rattle.std.specs.Prelude.{◌≡◌, ◌⊎◌, ◌*◌, ◌^◌, ◌<◌, ℕ, List, [], ◌++◌, codes}
use Rattle.std.specs.Str.Parse.{IsNumeral, digits_value, without_leading_plus}

-- the text is a decimal number, which a plus may begin, and then this unit; and this is the size in bytes, which fits in 64 bits
pub record IsCount (text unit : List ℕ) (bytes size : ℕ) : Type 0 where
  pub number : List ℕ
  pub is : text ≡ number ++ unit
  pub numeral : IsNumeral 10 (without_leading_plus number)
  pub value : size ≡ digits_value 10 (without_leading_plus number) * bytes
  pub small : size < 2 ^ 64

-- bytes where there is no unit, blocks of 2048 bytes by `s`, and powers of 1000 and of 1024
abbrev pub IsSize : List ℕ → ℕ → Type 0
IsSize text size = IsCount text [] 1 size ⊎ IsCount text (codes "s") 2048 size ⊎ IsCount text (codes "k") 1000 size ⊎ IsCount text (codes "M") 1000000 size ⊎ IsCount text (codes "G") 1000000000 size ⊎
    IsCount text (codes "Ki") 1024 size ⊎ IsCount text (codes "Mi") 1048576 size ⊎ IsCount text (codes "Gi") 1073741824 size

-- no text is of two sizes
abbrev pub HasOneSize : Type 0
HasOneSize = (text : List ℕ) (one other : ℕ) → IsSize text one → IsSize text other → one ≡ other
