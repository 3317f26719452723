use Rattle.std.proofs.Common.{◌≡◌, take}
use Rattle.std.specs.Prelude.{filter_map}
use Rattle.udfs_space.specs.Views.{view_by}
use Rattle.udfs_lost.specs.Naming.{named_by}
use Rattle.udfs_lost.proofs.entries.named.Given as goal

abbrev pub invariant-loop-entry : goal.invariant-loop-entry
invariant-loop-entry g l = l.icbs.items ≡ filter_map (named_by (view_by g.B.BlockStore.states l.view)) (take l.entry-index l.entries)
