use Rattle.std.proofs.Common.{◌≡◌, map}
use Rattle.std.specs.declared.alloc.Global.{Global}
use Rattle.std.specs.declared.vec.Vec.{Vec}
use Rattle.udfs_space.specs.Views.{view_by}
use Rattle.udfs_walk.specs.Counting.{KeepsCount}
use Rattle.udfs_walk.specs.Forests.{keys_in}
use Rattle.udfs_walk.specs.Memos.{HasWords}
use Rattle.udfs_walk.specs.NodeFields.{NodeFields}
use Rattle.udfs_walk.specs.Unsettled.{settled}
use Rattle.udfs_walk.proofs.forests.settled_trees.Given as goal

-- the trees so far, settled
abbrev pub invariant-loop-nodes : goal.invariant-loop-nodes
invariant-loop-nodes g l = record {
  settled : g.B.BlockStore.tells → map (λ (tree : Vec NodeFields Global). tree.items) l.trees.items ≡ map (λ (tree : Vec NodeFields Global). map (settled (view_by g.B.BlockStore.states l.view)) tree.items) l.yielded;
  words : g.B.BlockStore.tells → HasWords (view_by g.B.BlockStore.states l.view) l.memo;
  counted : g.B.BlockStore.tells → KeepsCount (keys_in (map (λ (tree : Vec NodeFields Global). tree.items) l.trees.items)) l.fn.memo l.fn.walks l.memo l.walks;
}
