use Rattle.std.proofs.Common.{◌≡◌, false, length}
use Rattle.udfs_words.specs.GlobRows.{last_from}
use Rattle.udfs_words.proofs.glob_rows.is_at_end.Given as goal

-- the last one seen so far
abbrev pub invariant-loop-here : goal.invariant-loop-here
invariant-loop-here l = last_from l.reached l.rest ≡ last_from false l.row

abbrev pub decreases-loop-here : goal.decreases-loop-here
decreases-loop-here l = length l.rest
