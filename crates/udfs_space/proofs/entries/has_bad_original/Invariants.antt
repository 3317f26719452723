use Rattle.std.proofs.Common.{◌≡◌, drop}
use Rattle.std.specs.List.{list_any}
use Rattle.udfs_space.specs.Sparing.{is_bad_original}
use Rattle.udfs_space.proofs.entries.has_bad_original.Given as goal

abbrev pub invariant-loop-entry : goal.invariant-loop-entry
invariant-loop-entry l = list_any (is_bad_original l.packet) (drop l.entry-index l.entries) ≡ list_any (is_bad_original l.packet) l.entries
