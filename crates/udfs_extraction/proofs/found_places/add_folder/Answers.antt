use Rattle.std.proofs.Common.{◌≡◌, ◌∙◌, Contains, rules, subst}
use Rattle.udfs_space.specs.Views.{view_by}
use Rattle.udfs_extraction.specs.Seats.{IsFoundAt}
use Rattle.udfs_extraction.proofs.SeatLemmas.{adds_on, adds_wider, item_at}
use Rattle.udfs_extraction.proofs.found_places.add_folder.Goals as goal

pub loop-found-preserved : goal.loop-found-preserved
loop-found-preserved g c known =
    let P = IsFoundAt (view_by g.B.BlockStore.states c.args.view) c.args.lost.now c.args.tree c.args.folder.now in
    let found = c.found-item.result in
    let items : c.deref-found-items.result.now ≡ c.in_ok-names.names.items = search rules in
    let here = subst (λ l. Contains l found) (items ∙ c.in_ok-names.ensures.value known) (item_at c.deref-found-items.result.now c.loop-found.found-index found c.loop-found-test.true c.found-item.is) in
    adds_on P _ _ _ (c.loop-found.invariant known) (adds_wider _ P _ _ (λ p same. (found, here, same ∙ c.in_ok-place.ensures)) c.in_ok-add.ensures)
