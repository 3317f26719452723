use Rattle.std.proofs.Common.{◌≡◌, ◌∙◌, sym, ap, subst, true, Some, slice_get, List}
use Rattle.udfs_space.specs.Places.{view}
use Rattle.udfs_walk.specs.NodeBodies.{HasCells}
use Rattle.udfs_walk.specs.Targets.{icb_at}
use Rattle.udfs_walk.specs.UnnamedEntries.{address_of}
use Rattle.udfs_walk.specs.declared.answers.Unnamed.{Unnamed}
use Rattle.udfs_salvage.specs.Found.{found_now, volume_now}
use Rattle.udfs_salvage.specs.Listings.{full_entry_in, listing_by}
use Rattle.udfs_salvage.specs.Extraction.{filled}
use Rattle.udfs_salvage.specs.UnnamedExtraction.{is_lost_file}
use Rattle.udfs_salvage.proofs.Extracting.{store_not_refused, true_false}
use Rattle.udfs_salvage.proofs.UnnamedEntries.{lost_cells}
use Rattle.udfs_salvage.proofs.ListedNodes.{same_full, same_lost}
use Rattle.udfs_salvage.proofs.listed_extraction.write_lost_by.Goals as goal

pub returns-in-Open-clause-cells : goal.returns-in-Open-clause-cells
returns-in-Open-clause-cells g c = λ tells profile last u is are at lost.
    let r = c.args.listing.now in
    let b = g.B.BlockStore.states r.table.now in
    let k = lost_cells profile b last c.args.index (listing_by g.B.BlockStore.states r) (found_now c.in-Open.opened) u is (ap volume_now c.in-Open.is) at lost in
    let same = same_full (full_entry_in b (volume_now r.volume)) c.args.entries.now c.args.index u c.index-entries-index.result (subst (λ (us : List Unnamed). slice_get us c.args.index ≡ Some u) (sym are) at) c.index-entries-index.is in
    let address : c.icb-address.result ≡ address_of (icb_at u.reference u.block) = c.icb-address.ensures ∙ ap (λ (w : Unnamed). address_of (icb_at w.reference w.block)) same in (
      k.0,
      k.1,
      c.write_at_by.ensures.cells tells k.0 (subst (λ v. HasCells v c.icb-address.result k.0) (sym c.view_by-view.ensures.value) (subst (λ a. HasCells (view b c.in-Open.opened.space) a k.0) (sym address) k.2)),
    )

pub returns-in-Open-clause-not_whole : goal.returns-in-Open-clause-not_whole
returns-in-Open-clause-not_whole g c = λ tells profile last u is are at.
    let W = g.W.Sink in
    let r = c.args.listing.now in
    let b = g.B.BlockStore.states r.table.now in
    let same = same_full (full_entry_in b (volume_now r.volume)) c.args.entries.now c.args.index u c.index-entries-index.result (subst (λ (us : List Unnamed). slice_get us c.args.index ≡ Some u) (sym are) at) c.index-entries-index.is in
    let lost : is_lost_file u ≡ true = ap is_lost_file (sym same) ∙ same_lost b (volume_now r.volume) c.index-entries-index.result ∙ sym c.is_lost_file.ensures ∙ c.if-not-is_lost_file.false in
    let written = returns-in-Open-clause-cells g c tells profile last u is are at lost in
    (λ e. absurd (store_not_refused (W.stream c.args.sink.now) (W.stream c.write_at_by.new.sink) (filled 0 written.0) c.write_at_by.result written.2 e), λ e. absurd (true_false (is_lost_file u) lost e))
