use Rattle.std.proofs.Common.{◌≡◌, ◌∷◌, ◌++◌, false, length}
use Rattle.udfs_words.specs.GlobRows.{both}
use Rattle.udfs_words.proofs.glob_rows.passed.Given as goal

-- what is told so far, and what is left, are all
abbrev pub invariant-loop-reached : goal.invariant-loop-reached
invariant-loop-reached l = l.next.items ++ both l.rest l.left ≡ false ∷ both l.row l.hits

abbrev pub decreases-loop-reached : goal.decreases-loop-reached
decreases-loop-reached l = length l.rest
