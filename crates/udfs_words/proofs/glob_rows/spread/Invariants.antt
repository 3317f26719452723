use Rattle.std.proofs.Common.{◌≡◌, ◌++◌, false, length}
use Rattle.udfs_words.specs.GlobRows.{spread_from}
use Rattle.udfs_words.proofs.glob_rows.spread.Given as goal

-- what is told so far, and what is left, are all
abbrev pub invariant-loop-here : goal.invariant-loop-here
invariant-loop-here l = l.next.items ++ spread_from l.reached l.rest ≡ spread_from false l.row

abbrev pub decreases-loop-here : goal.decreases-loop-here
decreases-loop-here l = length l.rest
