use Rattle.std.proofs.Common.{◌≡◌, drop}
use Rattle.std.specs.List.{list_any}
use Rattle.udfs_space.specs.Sparing.{passes_end}
use Rattle.udfs_space.proofs.entries.passes_end.Given as goal

abbrev pub invariant-loop-entry : goal.invariant-loop-entry
invariant-loop-entry l = list_any (passes_end l.last l.packet) (drop l.entry-index l.entries) ≡ list_any (passes_end l.last l.packet) l.entries
