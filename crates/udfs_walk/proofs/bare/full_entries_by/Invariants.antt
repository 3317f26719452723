use Rattle.std.proofs.Common.{◌≡◌, ◌≤◌, ◌+◌, ◌++◌, length, map, vec_capacity, vec_len}
use Rattle.std.specs.Vec.Iter.{into_iter_items}
use Rattle.udfs_space.specs.Views.{view_by}
use Rattle.udfs_walk.specs.Bare.{full_entry}
use Rattle.udfs_walk.proofs.bare.full_entries_by.Given as goal

-- those so far, and those that are left, for which there is room
abbrev pub invariant-loop-entry : goal.invariant-loop-entry
invariant-loop-entry g l = (g.B.BlockStore.tells → l.full.items ++ map (full_entry (view_by g.B.BlockStore.states l.view)) (into_iter_items l.entry-iterator) ≡ map (full_entry (view_by g.B.BlockStore.states l.view)) l.fn.bare.items)
    × (vec_len l.full + length (into_iter_items l.entry-iterator) ≤ vec_capacity l.full)
