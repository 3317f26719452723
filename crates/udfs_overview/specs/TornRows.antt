-- What is said of torn files.
use Rattle.std.specs.Prelude.{ℕ, Bool, List}

-- what a torn file lacks: its path, its bytes, how many of them are missing, and whether nothing is missing but blocks in conflict
pub record TornPart : Type 0 where
  pub path : List (List ℕ)
  pub size : ℕ
  pub lost : ℕ
  pub disputed : Bool

-- one row of the list of torn files, which is sorted and printed by these values; the path is a text
pub record Row : Type 0 where
  pub lost : ℕ
  pub size : ℕ
  pub disputed : Bool
  pub path : List ℕ
