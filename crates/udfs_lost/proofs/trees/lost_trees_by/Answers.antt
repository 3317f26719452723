use Rattle.udfs_space.specs.Views.{view_by}
use Rattle.udfs_walk.specs.Forests.{IsForestRefused}
use Rattle.udfs_lost.specs.LostTrees.{AreLostTrees, IsTreesRefused}
use Rattle.udfs_lost.proofs.EntryLemmas.{refused_in}
use Rattle.udfs_lost.proofs.TreeLemmas.{are_lost, forest_refused, one_each}
use Rattle.udfs_lost.proofs.trees.lost_trees_by.Goals as goal

pub returns-in_err-forest-clause-value : goal.returns-in_err-forest-clause-value
returns-in_err-forest-clause-value g c told =
    let v = view_by g.B.BlockStore.states c.args.view in
    refused_in (λ trees. AreLostTrees v c.args.folders.now trees.items) (IsForestRefused v c.args.folders.now) (IsTreesRefused v c.args.folders.now) c.from_residual.result c.in_err-forest.field-0.0 c.from_residual.ensures.1
    (λ error x. forest_refused v c.args.folders.now error x) (c.in_err-forest.ensures.value told)

pub returns-clause-value : goal.returns-clause-value
returns-clause-value g c told =
    let v = view_by g.B.BlockStore.states c.args.view in
    are_lost v c.args.folders.now c.in_ok-forest.forest.items c.in_ok-trees.trees.items (c.in_ok-forest.ensures.value told) (c.in_ok-trees.ensures (one_each v c.args.folders.now c.in_ok-forest.forest.items (c.in_ok-forest.ensures.value told)))
