use Rattle.std.proofs.lemmas.Result.{err_from_is_err_and}
use Rattle.udfs_space.specs.Views.{view_by}
use Rattle.udfs_overview.specs.FoundLists.{full_names, tree_found}
use Rattle.udfs_salvage.proofs.PublicLaws.{passed_item, stopped_item}
use Rattle.udfs_overview.proofs.found_list.put_trees.Goals as goal

pub returns-in_err-put_tree-clause-printed : goal.returns-in_err-put_tree-clause-printed
returns-in_err-put_tree-clause-printed g c told =
    let p = err_from_is_err_and c.from_residual.result c.from_residual.ensures.1 in
    let v = view_by g.B.BlockStore.states c.args.view in
    rw (p.1, p.2) (stopped_item (tree_found c.args.form v c.args.two (full_names v c.args.lost.now)) c.args.trees.now c.loop-tree.tree-index c.tree-item.result
    c.loop-tree-test.true c.tree-item.is (c.loop-tree.invariant told) (c.in_err-put_tree.ensures.printed told))

pub loop-tree-preserved : goal.loop-tree-preserved
loop-tree-preserved g c told =
    let v = view_by g.B.BlockStore.states c.args.view in
    passed_item (tree_found c.args.form v c.args.two (full_names v c.args.lost.now)) c.args.trees.now c.loop-tree.tree-index c.tree-item.result
    c.loop-tree-test.true c.tree-item.is (c.loop-tree.invariant told) (c.in_ok-put_tree.ensures.printed told)
