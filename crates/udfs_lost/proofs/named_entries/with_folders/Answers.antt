use Rattle.std.proofs.Common.{◌||◌, ◌∙◌, ap}
use Rattle.std.specs.Borrow.{Bor}
use Rattle.std.specs.List.{list_any}
use Rattle.udfs_space.specs.Views.{view_by}
use Rattle.udfs_walk.specs.NodeFields.{NodeFields}
use Rattle.udfs_walk.specs.Targets.{is_icb}
use Rattle.udfs_lost.specs.FoundNames.{is_found_at, is_of}
use Rattle.udfs_lost.proofs.ToldLemmas.{any_next}
use Rattle.udfs_lost.proofs.named_entries.with_folders.Goals as goal

pub loop-folder-preserved : goal.loop-folder-preserved
loop-folder-preserved g c told icb =
    let v = view_by g.B.BlockStore.states c.args.view in
    let met = c.loop-folder.met in
    any_next (λ (folder : Bor NodeFields). is_found_at v c.args.lost.now icb folder.now) c.args.folders.now c.loop-folder.folder-index c.folder-item.result (list_any (is_icb icb) c.args.met) (list_any (is_icb icb) met) _
    c.loop-folder-test.true c.folder-item.is (c.loop-folder.invariant told icb)
    (c.in_ok-met.ensures icb ∙ ap (λ names. list_any (is_icb icb) met || list_any (is_of icb) names) (c.deref.ensures.value ∙ c.in_ok-names.ensures.value told))
