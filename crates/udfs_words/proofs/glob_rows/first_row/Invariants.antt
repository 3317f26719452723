use Rattle.std.proofs.Common.{◌≡◌, ◌∷◌, true}
use Rattle.udfs_words.specs.GlobRows.{unreached}
use Rattle.udfs_words.proofs.glob_rows.first_row.Given as goal

-- the first place, and one that is not reached for each thing so far
abbrev pub invariant-loop-place : goal.invariant-loop-place
invariant-loop-place l = l.row.items ≡ true ∷ unreached l._place
