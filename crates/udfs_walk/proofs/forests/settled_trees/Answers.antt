use Rattle.std.proofs.Common.{ap, map}
use Rattle.std.specs.declared.alloc.Global.{Global}
use Rattle.std.specs.declared.vec.Vec.{Vec}
use Rattle.udfs_space.specs.Views.{view_by}
use Rattle.udfs_walk.specs.NodeFields.{NodeFields}
use Rattle.udfs_walk.proofs.ForestLemmas.{counted_settled, trees_more}
use Rattle.udfs_walk.proofs.forests.settled_trees.Goals as goal

pub loop-nodes-init : goal.loop-nodes-init
loop-nodes-init g c = record {
  settled = λ told. ap (map (λ (tree : Vec NodeFields Global). tree.items)) c.new-trees.ensures.items;
  words = c.requires;
  counted = λ told start icbs w k. k;
}

pub loop-nodes-preserved : goal.loop-nodes-preserved
loop-nodes-preserved g c =
    let v = view_by g.B.BlockStore.states c.args.view in
    record {
      settled = λ told. trees_more (λ (tree : Vec NodeFields Global). tree.items) v c.loop-nodes.yielded c.in-Some.nodes _ _ c.in_ok-tree.tree.items (c.loop-nodes.invariant.settled told) (c.in_ok-tree.ensures.settled told) c.in_ok-put.ensures;
      words = c.in_ok-tree.ensures.words;
      counted = λ told. counted_settled v (map (λ (tree : Vec NodeFields Global). tree.items) c.loop-nodes.trees.items) _ c.in-Some.nodes.items c.in_ok-tree.tree.items c.args.memo.now c.loop-nodes.memo _ c.args.walks.now c.loop-nodes.walks _
          c.in_ok-put.ensures (c.in_ok-tree.ensures.settled told) (c.loop-nodes.invariant.counted told) (c.in_ok-tree.ensures.counted told);
    }
