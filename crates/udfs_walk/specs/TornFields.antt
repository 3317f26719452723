-- What is reported of a body of which some bytes are missing.
use Rattle.std.specs.Prelude.{ℕ, List}

-- the blocks that are missing, and the runs of missing bytes, each by its offset and length
pub record TornFields : Type 0 where
  pub missing : List ℕ
  pub holes : List (ℕ × ℕ)
