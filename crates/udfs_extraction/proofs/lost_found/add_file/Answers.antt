use Rattle.std.proofs.Common.{[], ◌∷◌, inl, inr, sym, ◌∙◌, refl}
use Rattle.udfs_lattice.proofs.Inclusion.{here}
use Rattle.udfs_space.specs.Views.{view_by}
use Rattle.udfs_walk.specs.UnnamedEntries.{address_of}
use Rattle.udfs_walk.specs.Walks.{IsNodesRefused}
use Rattle.udfs_lost.specs.Folders.{icb_of_entry}
use Rattle.udfs_extraction.specs.LostTrees.{IsFileRefused}
use Rattle.udfs_extraction.proofs.FoundLemmas.{adds_one, adds_same, told_by}
use Rattle.udfs_extraction.proofs.lost_found.add_file.Goals as goal

pub returns-then-not-is_lost_file-clause-added : goal.returns-then-not-is_lost_file-clause-added
returns-then-not-is_lost_file-clause-added g c known = adds_same (view_by g.B.BlockStore.states c.args.view) c.args.file.now c.args.trees.now.items (sym c.is_lost_file.ensures ∙ c.if-not-is_lost_file.true)

pub returns-in-Err-clause-refused : goal.returns-in-Err-clause-refused
returns-in-Err-clause-refused g c known =
    let v = view_by g.B.BlockStore.states c.args.view in
    told_by (IsNodesRefused v (address_of (icb_of_entry c.args.file.now))) (IsFileRefused v (c.args.file.now ∷ [])) (λ error why. inl (c.args.file.now, here c.args.file.now [], sym c.is_lost_file.ensures ∙ c.if-not-is_lost_file.false, why)) c.in-Err.error (c.in-Err.ensures.refused known)

pub returns-in-Ok-push_tree-clause-added : goal.returns-in-Ok-push_tree-clause-added
returns-in-Ok-push_tree-clause-added g c known =
    adds_one (view_by g.B.BlockStore.states c.args.view) c.args.file.now c.args.trees.now.items c.push_tree.new.trees.items c.in-Ok.tree (sym c.is_lost_file.ensures ∙ c.if-not-is_lost_file.false) (c.in-Ok.ensures.tree known) c.in-Ok-push_tree.ensures

pub returns-in-Err-push_tree-clause-refused : goal.returns-in-Err-push_tree-clause-refused
returns-in-Err-push_tree-clause-refused g c known = inr refl
