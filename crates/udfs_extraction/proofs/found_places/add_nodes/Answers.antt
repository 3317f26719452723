use Rattle.std.proofs.Common.{rules}
use Rattle.udfs_space.specs.Views.{view_by}
use Rattle.udfs_lost.specs.FoundNames.{torn_folders}
use Rattle.udfs_extraction.specs.Seats.{IsFoundAmong}
use Rattle.udfs_extraction.proofs.SeatLemmas.{adds_on, adds_wider, lent_at}
use Rattle.udfs_extraction.proofs.found_places.add_nodes.Goals as goal

pub loop-folder-preserved : goal.loop-folder-preserved
loop-folder-preserved g c known =
    let P = IsFoundAmong (view_by g.B.BlockStore.states c.args.view) c.args.lost.now c.args.tree c.args.nodes.now in
    let folder = c.folder-item.result in
    adds_on P _ _ _ (c.loop-folder.invariant known)
    (adds_wider _ P _ _ (λ p is. (folder.now, lent_at c.in_ok-folders.folders.items (torn_folders c.args.nodes.now) c.loop-folder.folder-index folder c.in_ok-folders.ensures (search rules) (search rules), is)) (c.in_ok-add_folder.ensures.added known))
