use Rattle.std.proofs.Common.{◌≡◌, List, false, map, subst, sym}
use Rattle.std.specs.Borrow.{Bor}
use Rattle.udfs_space.specs.Views.{view_by}
use Rattle.udfs_walk.specs.NodeFields.{NodeFields}
use Rattle.udfs_walk.specs.declared.answers.Unnamed.{Unnamed}
use Rattle.udfs_lost.specs.LostFiles.{lost_files}
use Rattle.udfs_overview.specs.LostTallies.{tree_nodes}
use Rattle.udfs_overview.proofs.LostTallying.{tally_of}
use Rattle.udfs_overview.proofs.lost_tallies.tally_trees.Goals as goal

pub returns-clause-value : goal.returns-clause-value
returns-clause-value g c told =
    let v = view_by g.B.BlockStore.states c.args.view in
    tally_of v c.args.entries.now c.args.trees.now c.deref.result.now c.deref-2.result.now c.args.deleted c.figures.result
    (subst (λ (z : List (Bor NodeFields)). map (λ (n : Bor NodeFields). n.now) z ≡ tree_nodes c.args.trees.now) (sym c.deref.ensures.value) c.in_ok-nodes.ensures)
    (subst (λ (z : List (Bor Unnamed)). map (λ (f : Bor Unnamed). f.now) z ≡ lost_files v false c.args.trees.now c.args.entries.now) (sym c.deref-2.ensures.value) (c.in_ok-files.ensures.value told))
    (c.requires told) c.figures.ensures
