use Rattle.std.proofs.Common.{subst}
use Rattle.udfs_space.specs.Views.{view_by}
use Rattle.udfs_lost.specs.Folders.{IsRootsRefused, lost_folders}
use Rattle.udfs_lost.specs.LostTrees.{AreLostTrees, IsTreesRefused}
use Rattle.udfs_lost.proofs.EntryLemmas.{refused_on}
use Rattle.udfs_overview.specs.LostTrees.{IsUnfound}
use Rattle.udfs_overview.proofs.LostTallying.{roots_unfound, trees_unfound}
use Rattle.udfs_overview.proofs.lost_found.found_in_by.Goals as goal

pub returns-in_err-roots-clause-refused : goal.returns-in_err-roots-clause-refused
returns-in_err-roots-clause-refused g c =
    let v = view_by g.B.BlockStore.states c.args.view in
    let folders = lost_folders v c.args.deleted c.args.entries.now in
    refused_on g.B.BlockStore.tells (IsRootsRefused v folders) (IsUnfound v folders) c.from_residual.result c.in_err-roots.field-0.0 c.from_residual.ensures.1
    (λ told error x. roots_unfound v folders error x) c.in_err-roots.ensures.refused

pub returns-in_err-trees-clause-refused : goal.returns-in_err-trees-clause-refused
returns-in_err-trees-clause-refused g c =
    let v = view_by g.B.BlockStore.states c.args.view in
    let folders = lost_folders v c.args.deleted c.args.entries.now in
    refused_on g.B.BlockStore.tells (IsTreesRefused v c.deref.result.now) (IsUnfound v folders) c.from_residual-in_err-trees.result c.in_err-trees.field-0.0 c.from_residual-in_err-trees.ensures.1
    (λ told error x. trees_unfound v folders c.in_ok-roots.roots.items error (c.in_ok-roots.ensures.roots told) (subst (λ z. IsTreesRefused v z error) c.deref.ensures.value x)) c.in_err-trees.ensures.value

pub returns-clause-trees : goal.returns-clause-trees
returns-clause-trees g c told = let v = view_by g.B.BlockStore.states c.args.view in record {
  roots = c.in_ok-roots.roots.items;
  are_roots = c.in_ok-roots.ensures.roots told;
  are_trees = subst (λ z. AreLostTrees v z c.in_ok-trees.trees.items) c.deref.ensures.value (c.in_ok-trees.ensures.value told);
}
