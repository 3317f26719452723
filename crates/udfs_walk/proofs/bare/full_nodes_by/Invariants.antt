use Rattle.std.proofs.Common.{◌≡◌, ◌≤◌, ◌+◌, ◌++◌, length, map, vec_capacity, vec_len}
use Rattle.std.specs.Vec.Iter.{into_iter_items}
use Rattle.udfs_space.specs.Views.{view_by}
use Rattle.udfs_walk.specs.Bare.{full_node}
use Rattle.udfs_walk.proofs.bare.full_nodes_by.Given as goal

-- those so far, and those that are left, for which there is room
abbrev pub invariant-loop-node : goal.invariant-loop-node
invariant-loop-node g l = (g.B.BlockStore.tells → l.full.items ++ map (full_node (view_by g.B.BlockStore.states l.view)) (into_iter_items l.node-iterator) ≡ map (full_node (view_by g.B.BlockStore.states l.view)) l.fn.bare.items)
    × (vec_len l.full + length (into_iter_items l.node-iterator) ≤ vec_capacity l.full)
