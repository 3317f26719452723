use Rattle.std.proofs.Common.{◌≡◌, take}
use Rattle.std.specs.Prelude.{count_by}
use Rattle.udfs_overview.specs.DiscTallies.{has_data}
use Rattle.udfs_overview.proofs.disc_tallies.count_with_data.Given as goal

-- those so far
abbrev pub invariant-loop-entry : goal.invariant-loop-entry
invariant-loop-entry l = l.count ≡ count_by has_data (take l.entry-index l.entries)
