use Rattle.std.proofs.Common.{◌≡◌, ◌+◌, length, map}
use Rattle.std.specs.Prelude.{filter_map, flat_map}
use Rattle.std.specs.List.{range_with_len}
use Rattle.udfs_space.specs.Views.{view_by}
use Rattle.udfs_walk.specs.Bare.{full_entry}
use Rattle.udfs_walk.specs.UnnamedEntries.{icbs_in, unnamed_at}
use Rattle.udfs_walk.proofs.unnamed_entries.counted_unnamed_by.Given as goal

abbrev pub invariant-loop-reference : goal.invariant-loop-reference
invariant-loop-reference g l = (g.B.BlockStore.tells → map (full_entry (view_by g.B.BlockStore.states l.view)) l.found.items
    ≡ flat_map (λ r. filter_map (unnamed_at (view_by g.B.BlockStore.states l.view) l.nodes) (icbs_in l.view.space.now r)) (range_with_len 0 l.reference))
    × (l.walks ≡ l.fn.walks + length l.found.items)
