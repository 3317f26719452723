use Rattle.std.proofs.Common.{◌≡◌, ◌∙◌, sym, ap, subst, true, false}
use Rattle.udfs_space.specs.Places.{view}
use Rattle.udfs_walk.specs.NodeBodies.{HasCells, MayTakeMemory}
use Rattle.udfs_salvage.specs.Found.{found_now, volume_now}
use Rattle.udfs_salvage.specs.Listings.{full_in, listing_by}
use Rattle.udfs_salvage.specs.Extraction.{fill_byte, filled, is_offered}
use Rattle.udfs_salvage.specs.StoreExtraction.{StoreExtracts}
use Rattle.udfs_salvage.proofs.Extracting.{report_cells, store_not_refused, true_false, walked_cells}
use Rattle.udfs_salvage.proofs.Founds.{found_same}
use Rattle.udfs_salvage.proofs.ListedNodes.{same_full, same_offered}
use Rattle.udfs_salvage.proofs.TreeBytes.{fills_file, writes_file}
use Rattle.udfs_salvage.proofs.listed_extraction.write_node_by.Goals as goal

pub returns-in-Open-clause-cells : goal.returns-in-Open-clause-cells
returns-in-Open-clause-cells g c = λ tells profile last n is at offered.
    let W = g.W.Sink in
    let r = c.args.listing.now in
    let b = g.B.BlockStore.states r.table.now in
    let v = view b c.in-Open.opened.space in
    let k = report_cells profile b last c.args.index (listing_by g.B.BlockStore.states r) (found_now c.in-Open.opened) n c.args.fill is (ap volume_now c.in-Open.is) at offered in
    let same = same_full (full_in b (volume_now r.volume)) r.nodes.items c.args.index n c.index-node.result.now at c.index-node.ensures in
    let icb : c.node.inside.icb ≡ n.icb = ap (λ m. m.icb) c.node.view_is ∙ ap (λ m. m.icb) same in (
      k.0,
      k.1,
      subst (λ x. StoreExtracts (W.stream c.args.sink.now) (W.stream c.write_at_by.new.sink) (filled x k.0) c.write_at_by.result) c.fill_byte-byte.ensures
          (c.write_at_by.ensures.cells tells k.0 (subst (λ w. HasCells w c.node.inside.icb k.0) (sym c.view_by-view.ensures.value) (subst (λ a. HasCells v a k.0) (sym icb) k.2))),
    )

pub returns-in-Open-clause-not_whole : goal.returns-in-Open-clause-not_whole
returns-in-Open-clause-not_whole g c = λ tells profile last n is at.
    let W = g.W.Sink in
    let r = c.args.listing.now in
    let b = g.B.BlockStore.states r.table.now in
    let same = same_full (full_in b (volume_now r.volume)) r.nodes.items c.args.index n c.index-node.result.now at c.index-node.ensures in
    let offered : is_offered n.standing n.size c.args.fill ≡ true =
    ap (λ m. is_offered m.standing m.size c.args.fill) (sym same) ∙ same_offered b (volume_now r.volume) c.index-node.result.now.icb c.index-node.result.now.standing c.index-node.result.now.size c.args.fill ∙ sym c.is_offered.ensures ∙ c.if-not-is_offered.false in
    let written = returns-in-Open-clause-cells g c tells profile last n is at offered in
    (λ e. absurd (store_not_refused (W.stream c.args.sink.now) (W.stream c.write_at_by.new.sink) (filled (fill_byte c.args.fill) written.0) c.write_at_by.result written.2 e), λ e. absurd (true_false (is_offered n.standing n.size c.args.fill) offered e))

pub returns-in-Open-clause-walked : goal.returns-in-Open-clause-walked
returns-in-Open-clause-walked g c = λ tells f root n is at offered.
    let W = g.W.Sink in
    let r = c.args.listing.now in
    let b = g.B.BlockStore.states r.table.now in
    let k = walked_cells b f root (listing_by g.B.BlockStore.states r) c.args.index n c.args.fill is at offered in
    let same = same_full (full_in b (volume_now r.volume)) r.nodes.items c.args.index n c.index-node.result.now at c.index-node.ensures in
    let icb : c.node.inside.icb ≡ n.icb = ap (λ m. m.icb) c.node.view_is ∙ ap (λ m. m.icb) same in
    let opened : found_now c.in-Open.opened ≡ f = found_same _ _ (sym (ap volume_now c.in-Open.is) ∙ is.opens) in (
      k.0,
      k.1,
      subst (λ x. StoreExtracts (W.stream c.args.sink.now) (W.stream c.write_at_by.new.sink) (filled x k.0) c.write_at_by.result) c.fill_byte-byte.ensures
          (c.write_at_by.ensures.cells tells k.0 (subst (λ v. HasCells v c.node.inside.icb k.0) (sym c.view_by-view.ensures.value) (subst (λ a. HasCells (view b c.in-Open.opened.space) a k.0) (sym icb) (subst (λ h. HasCells (view b h.space) n.icb k.0) (sym opened) k.2)))),
    )

pub returns-in-Open-clause-unfit : goal.returns-in-Open-clause-unfit
returns-in-Open-clause-unfit g c = λ tells f root n is at.
    let W = g.W.Sink in
    let r = c.args.listing.now in
    let b = g.B.BlockStore.states r.table.now in
    let same = same_full (full_in b (volume_now r.volume)) r.nodes.items c.args.index n c.index-node.result.now at c.index-node.ensures in
    let offered : is_offered n.standing n.size c.args.fill ≡ true =
    ap (λ m. is_offered m.standing m.size c.args.fill) (sym same) ∙ same_offered b (volume_now r.volume) c.index-node.result.now.icb c.index-node.result.now.standing c.index-node.result.now.size c.args.fill ∙ sym c.is_offered.ensures ∙ c.if-not-is_offered.false in
    let written = returns-in-Open-clause-walked g c tells f root n is at offered in
    (λ e. absurd (store_not_refused (W.stream c.args.sink.now) (W.stream c.write_at_by.new.sink) (filled (fill_byte c.args.fill) written.0) c.write_at_by.result written.2 e), λ e. absurd (true_false (is_offered n.standing n.size c.args.fill) offered e))

pub returns-in-Open-clause-wanted : goal.returns-in-Open-clause-wanted
returns-in-Open-clause-wanted g c = λ tells f n opens at refused.
    let r = c.args.listing.now in
    let b = g.B.BlockStore.states r.table.now in
    let same = same_full (full_in b (volume_now r.volume)) r.nodes.items c.args.index n c.index-node.result.now at c.index-node.ensures in
    let icb : c.node.inside.icb ≡ n.icb = ap (λ m. m.icb) c.node.view_is ∙ ap (λ m. m.icb) same in
    let opened : found_now c.in-Open.opened ≡ f = found_same _ _ (sym (ap volume_now c.in-Open.is) ∙ opens) in
    subst (λ h. MayTakeMemory (view b h.space) n.icb) opened (subst (λ a. MayTakeMemory (view b c.in-Open.opened.space) a) icb (subst (λ v. MayTakeMemory v c.node.inside.icb) c.view_by-view.ensures.value (c.write_at_by.ensures.wanted refused tells)))

pub returns-in-Open-clause-tree : goal.returns-in-Open-clause-tree
returns-in-Open-clause-tree g c = λ tells profile last n is at whole.
    let W = g.W.Sink in
    let r = c.args.listing.now in
    writes_file profile (g.B.BlockStore.states r.table.now) last c.args.index (listing_by g.B.BlockStore.states r) (fill_byte c.args.fill)
    (λ bytes. StoreExtracts (W.stream c.args.sink.now) (W.stream c.write_at_by.new.sink) bytes c.write_at_by.result)
    is n at whole (returns-in-Open-clause-cells g c tells profile last n is at (ap (λ s. is_offered s n.size c.args.fill) whole))

pub returns-in-Open-clause-filled : goal.returns-in-Open-clause-filled
returns-in-Open-clause-filled g c = λ tells profile last n is at offered.
    let W = g.W.Sink in
    let r = c.args.listing.now in
    fills_file profile (g.B.BlockStore.states r.table.now) last c.args.index (listing_by g.B.BlockStore.states r) (fill_byte c.args.fill) c.args.fill
    (λ bytes. StoreExtracts (W.stream c.args.sink.now) (W.stream c.write_at_by.new.sink) bytes c.write_at_by.result)
    is n at offered (returns-in-Open-clause-cells g c tells profile last n is at offered)

pub returns-then-not-is_offered-clause-tree : goal.returns-then-not-is_offered-clause-tree
returns-then-not-is_offered-clause-tree g c = λ tells profile last n is at whole.
    let r = c.args.listing.now in
    let b = g.B.BlockStore.states r.table.now in
    let same = same_full (full_in b (volume_now r.volume)) r.nodes.items c.args.index n c.index-node.result.now at c.index-node.ensures in
    let unoffered : is_offered n.standing n.size c.args.fill ≡ false =
    ap (λ m. is_offered m.standing m.size c.args.fill) (sym same) ∙ same_offered b (volume_now r.volume) c.index-node.result.now.icb c.index-node.result.now.standing c.index-node.result.now.size c.args.fill ∙ sym c.is_offered.ensures ∙ c.if-not-is_offered.true in
    absurd (true_false (is_offered n.standing n.size c.args.fill) (ap (λ s. is_offered s n.size c.args.fill) whole) unoffered)

pub returns-then-not-is_offered-clause-filled : goal.returns-then-not-is_offered-clause-filled
returns-then-not-is_offered-clause-filled g c = λ tells profile last n is at offered.
    let r = c.args.listing.now in
    let b = g.B.BlockStore.states r.table.now in
    let same = same_full (full_in b (volume_now r.volume)) r.nodes.items c.args.index n c.index-node.result.now at c.index-node.ensures in
    let unoffered : is_offered n.standing n.size c.args.fill ≡ false =
    ap (λ m. is_offered m.standing m.size c.args.fill) (sym same) ∙ same_offered b (volume_now r.volume) c.index-node.result.now.icb c.index-node.result.now.standing c.index-node.result.now.size c.args.fill ∙ sym c.is_offered.ensures ∙ c.if-not-is_offered.true in
    absurd (true_false (is_offered n.standing n.size c.args.fill) offered unoffered)
