use Rattle.std.proofs.Common.{Some}
use Rattle.udfs_space.specs.Places.{view}
use Rattle.udfs_space.specs.Views.{view_by}
use Rattle.udfs_lost.proofs.EntryLemmas.{refused_on}
use Rattle.udfs_lost.specs.Folders.{lost_folders}
use Rattle.udfs_overview.proofs.LostPieces.{full_lost, full_unfound, if_told}
use Rattle.udfs_overview.specs.LostTrees.{IsUnfound, IsUnfoundBy}
use Rattle.udfs_overview.specs.Searched.{rootless_now}
use Rattle.udfs_overview.proofs.lost_found.find_in.Goals as goal

pub returns-in-Ok-clause-trees : goal.returns-in-Ok-clause-trees
returns-in-Ok-clause-trees g c told =
    let r = c.args.rootless in
    full_lost _ (view (g.B.BlockStore.states c.args.blocks.now) r.volume.space) c.args.deleted _ r.entries.items c.in-Ok.trees.items c.view_by.ensures.value c.deref.ensures.value (c.in-Ok.ensures.trees told)

pub returns-in-Err-clause-refused : goal.returns-in-Err-clause-refused
returns-in-Err-clause-refused g c told =
    let r = c.args.rootless in
    if_told _ _ (λ error. full_unfound _ (view (g.B.BlockStore.states c.args.blocks.now) r.volume.space) c.args.deleted _ r.entries.items error c.view_by.ensures.value c.deref.ensures.value) c.in-Err.error (c.in-Err.ensures.refused told)
