use Rattle.std.proofs.Common.{◌≡◌, take}
use Rattle.std.specs.Prelude.{count_by}
use Rattle.udfs_overview.specs.DiscTallies.{is_empty_file}
use Rattle.udfs_overview.proofs.disc_tallies.count_empty.Given as goal

-- those so far
abbrev pub invariant-loop-entry : goal.invariant-loop-entry
invariant-loop-entry l = l.count ≡ count_by is_empty_file (take l.entry-index l.entries)
