use Rattle.std.proofs.Common.{◌≡◌, ◌+◌, ◌++◌, List, length, map}
use Rattle.std.specs.Prelude.{filter_map}
use Rattle.std.specs.List.{range_with_len}
use Rattle.udfs_space.specs.Views.{view_by}
use Rattle.udfs_walk.specs.Bare.{full_entry}
use Rattle.udfs_walk.specs.NodeFields.{NodeFields}
use Rattle.udfs_walk.specs.NamedKeys.{AreNamed}
use Rattle.udfs_walk.specs.UnnamedEntries.{unnamed_at}
use Rattle.udfs_walk.specs.Targets.{icb_at}
use Rattle.udfs_walk.proofs.unnamed_entries.push_unnamed.Given as goal

abbrev pub invariant-loop-block : goal.invariant-loop-block
invariant-loop-block g l = (g.B.BlockStore.tells → (nodes : List NodeFields) → AreNamed (view_by g.B.BlockStore.states l.view) nodes l.keys
    → map (full_entry (view_by g.B.BlockStore.states l.view)) l.found.items ≡ map (full_entry (view_by g.B.BlockStore.states l.view)) l.fn.found.items ++ filter_map (unnamed_at (view_by g.B.BlockStore.states l.view) nodes) (map (icb_at l.reference) (range_with_len 0 l.block)))
    × (l.walks + length l.fn.found.items ≡ l.fn.walks + length l.found.items)
