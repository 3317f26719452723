use Rattle.std.proofs.Common.{map}
use Rattle.std.specs.declared.alloc.Global.{Global}
use Rattle.std.specs.declared.vec.Vec.{Vec}
use Rattle.udfs_space.specs.Views.{view_by}
use Rattle.udfs_walk.specs.Counting.{KeepsCount}
use Rattle.udfs_walk.specs.Forests.{keys_in}
use Rattle.udfs_walk.specs.Memos.{IsMemo}
use Rattle.udfs_walk.specs.NodeFields.{NodeFields}
use Rattle.udfs_walk.proofs.ForestLemmas.{AreGrowing}
use Rattle.udfs_walk.proofs.forests.walked_trees.Given as goal

-- the trees of the roots so far
abbrev pub invariant-loop-root : goal.invariant-loop-root
invariant-loop-root g l = record {
  growing : g.B.BlockStore.tells → AreGrowing (view_by g.B.BlockStore.states l.view) l.roots l.root-index l.room (map (λ (tree : Vec NodeFields Global). tree.items) l.trees.items);
  memo : g.B.BlockStore.tells → IsMemo (view_by g.B.BlockStore.states l.view) l.memo;
  counted : g.B.BlockStore.tells → KeepsCount (keys_in (map (λ (tree : Vec NodeFields Global). tree.items) l.trees.items)) l.fn.memo l.fn.walks l.memo l.walks;
}
