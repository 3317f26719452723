use Rattle.std.proofs.Common.{◌≡◌, ◌++◌}
use Rattle.std.specs.Prelude.{filter}
use Rattle.std.specs.Vec.Iter.{into_iter_items}
use Rattle.udfs_space.specs.Views.{view_by}
use Rattle.udfs_lawfulness.specs.Asking.{asks}
use Rattle.udfs_lawfulness.proofs.trees.asking.Given as goal

-- those so far, and those of the nodes that are left
abbrev pub invariant-loop-node : goal.invariant-loop-node
invariant-loop-node g l = g.B.BlockStore.tells → l.kept.items ++ filter (asks (view_by g.B.BlockStore.states l.view)) (into_iter_items l.node-iterator) ≡ filter (asks (view_by g.B.BlockStore.states l.view)) l.fn.nodes.items
