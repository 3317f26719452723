-- What code keeps of the cells that it has gone through.
--     IsPassed whole rest gaps          of these cells the rest is left
--     Leaves cells rest old new         of these cells the rest is left
use Rattle.std.specs.Prelude.{◌≡◌, ℕ, zero, suc, List, [], ◌∷◌, ◌++◌, replicate, ⊤}
use Rattle.udfs_lattice.specs.Volumes.{ascending}
use Rattle.udfs_file.specs.declared.cells.Cell.{Cell}
use Rattle.udfs_file.specs.declared.cells.Cell.TheVariants.{Byte, Gap}
use Rattle.udfs_walk.specs.Standings.{missing_blocks, runs_from}

-- the blocks and the runs so far, and a last run of this many cells from this place on that may grow
pub record GapFields : Type 0 where
  pub missing : List ℕ
  pub holes : List (ℕ × ℕ)
  pub start : ℕ
  pub grown : ℕ

-- a run, if it has cells, and those after it
abbrev pub closed : ℕ → ℕ → List (ℕ × ℕ) → List (ℕ × ℕ)
closed start zero runs = runs
closed start (suc grown) runs = (start, suc grown) ∷ runs

-- the runs from a run that may grow on, with the cells after it
abbrev pub runs_open : ℕ → ℕ → List Cell → List (ℕ × ℕ)
runs_open start grown rest = runs_from start (replicate grown (Gap 0) ++ rest)

-- the cells before the rest were passed: what is missing of all is what was noted and what the rest lacks
pub record IsPassed (whole rest : List Cell) (g : GapFields) : Type 0 where
  pub blocks : ascending (missing_blocks whole) ≡ ascending (g.missing ++ missing_blocks rest)
  pub runs : runs_from 0 whole ≡ g.holes ++ runs_open g.start g.grown rest

-- the cells before the rest were gone through, and the rest is left
unfoldable pub Leaves : List Cell → List Cell → GapFields → GapFields → Type 0
Leaves cs rest old new = (whole later : List Cell) → IsPassed whole (cs ++ later) old → IsPassed whole (rest ++ later) new

-- the cell is missing, and needs block n
abbrev pub IsGapOf : ℕ → Cell → Type 0
IsGapOf n (Byte x holder) = ⊥
IsGapOf n (Gap m) = m ≡ n

-- all cells are missing with this block
abbrev pub AreGapsOf : ℕ → List Cell → Type 0
AreGapsOf n [] = ⊤
AreGapsOf n (c ∷ cs) = IsGapOf n c × AreGapsOf n cs
