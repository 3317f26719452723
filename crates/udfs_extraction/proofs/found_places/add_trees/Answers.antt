use Rattle.std.proofs.Common.{◌≡◌, Some, rules, subst}
use Rattle.udfs_space.specs.Views.{view_by}
use Rattle.udfs_extraction.specs.Seats.{IsFoundAmong, IsFoundBelow}
use Rattle.udfs_extraction.proofs.SeatLemmas.{adds_on, adds_wider, item_at}
use Rattle.udfs_extraction.proofs.found_places.add_trees.Goals as goal

pub loop-tree-preserved : goal.loop-tree-preserved
loop-tree-preserved g c known =
    let v = view_by g.B.BlockStore.states c.args.view in
    let P = IsFoundBelow v c.args.lost.now c.args.trees.now in
    let tree = c.tree-item.result in
    let nodes : c.deref.result.now ≡ tree.nodes.items = search rules in
    adds_on P _ _ _ (c.loop-tree.invariant known)
    (adds_wider _ P _ _ (λ p is. (tree, item_at c.args.trees.now c.loop-tree.tree-index tree c.loop-tree-test.true c.tree-item.is, subst (λ ns. IsFoundAmong v c.args.lost.now (Some tree.folder) ns p) nodes is)) (c.in_ok-add_nodes.ensures.added known))
