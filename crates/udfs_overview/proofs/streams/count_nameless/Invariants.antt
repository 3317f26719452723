use Rattle.std.proofs.Common.{◌≡◌, ◌≤◌, take}
use Rattle.std.specs.Prelude.{count_by}
use Rattle.udfs_space.specs.Views.{view_by}
use Rattle.udfs_overview.specs.Streams.{entry_has_streams}
use Rattle.udfs_overview.proofs.streams.count_nameless.Given as goal

-- those so far, no more than entries
abbrev pub invariant-loop-entry : goal.invariant-loop-entry
invariant-loop-entry g l = record {
  value : g.B.BlockStore.tells → l.count ≡ count_by (entry_has_streams (view_by g.B.BlockStore.states l.view)) (take l.entry-index l.entries);
  fits : l.count ≤ l.entry-index;
}
