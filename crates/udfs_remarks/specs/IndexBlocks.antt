-- The blocks of an index.
--     bounded blocks            the same, and nothing is known of a block that no volume has
--     IsNothingBehind blocks last     nothing is known of a block after the last one that a volume may have
--     IsTakenTable Told Took blocks t     it is known what the inputs of an index hold, and it took this table
use Rattle.std.specs.Prelude.{◌≡◌, ◌<◌, ℕ, cond, nat_lt}
use Rattle.udfs_lattice.specs.Tables.{IsTable, Table, state_of}
use Rattle.udfs_lattice.specs.Volumes.{Blocks}
use Rattle.udfs_lattice.specs.declared.facts.Fact.TheVariants.{Unknown}

-- nothing is known of a block above 4,194,303
abbrev pub bounded : Blocks → Blocks
bounded blocks n = cond (nat_lt n 4194304) (blocks n) Unknown

-- up to block 4,194,303
abbrev pub IsNothingBehind : Blocks → ℕ → Type 0
IsNothingBehind blocks last = (n : ℕ) → last < n → n < 4194304 → blocks n ≡ Unknown

-- where it is known what the inputs hold (`Told`): of each block it says what these states are
pub record IsTakenTable (Told : Type 0) (Took : Table → Type 0) (blocks : Blocks) (t : Table) : Type 0 where
  pub told : Told
  pub is_table : IsTable t
  pub took : Took t
  pub same : (n : ℕ) → state_of t n ≡ blocks n
