use Rattle.std.proofs.Common.{◌≡◌, ◌≤◌, length}
use Rattle.udfs_file.specs.FoundNames.{entries_in}
use Rattle.udfs_file.proofs.found_names.next_in.Given as goal

-- nothing was found so far
abbrev pub invariant-places : goal.invariant-places
invariant-places g l = record { same : g.B.BlockStore.tells → entries_in l.cursor ≡ entries_in l.fn.cursor; fewer : length l.cursor ≤ length l.fn.cursor }

abbrev pub decreases-places : goal.decreases-places
decreases-places g l = length l.cursor
