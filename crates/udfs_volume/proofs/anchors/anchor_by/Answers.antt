use Rattle.std.proofs.Common.{◌≡◌, sym, ◌∙◌, ap, subst, None}
use Rattle.std.specs.Prelude.{option_map}
use Rattle.udfs_lattice.specs.Volumes.{not_known}
use Rattle.udfs_volume.specs.Seen.{Sees}
use Rattle.udfs_volume.specs.Sequence.{anchor, anchor_or, extents_of, first_anchor}
use Rattle.udfs_volume.proofs.FirstAnchor.{anchor-found, anchor-without, anchor-memory}
use Rattle.udfs_volume.proofs.Rising.{anchor_rises, holes_rise}
use Rattle.udfs_volume.proofs.anchors.anchor_by.Goals as goal

pub returns-in-Some-clause-value : goal.returns-in-Some-clause-value
returns-in-Some-clause-value g c told =
    let t = g.B.BlockStore.states c.args.blocks.now in
    anchor-found t c.args.last c.in-Some.extents
    (sym c.in-Some.is ∙ c.in_ok-extents.ensures.value told ∙ ap (λ places. option_map extents_of (first_anchor t places)) c.places-places.ensures)

pub returns-in-Ok : goal.returns-in-Ok
returns-in-Ok g c =
    let t = g.B.BlockStore.states c.args.blocks.now in
    let saw : g.B.BlockStore.tells → Sees (λ extents. extents) c.without_anchor.result (anchor t c.args.last) = λ told.
    let is : anchor t c.args.last ≡ anchor_or None c.in-Ok.unread.items =
    anchor-without t c.args.last (sym c.in_default.is ∙ c.in_ok-extents.ensures.value told ∙ ap (λ places. option_map extents_of (first_anchor t places)) c.places-places.ensures)
    ∙ ap (λ places. anchor_or None (not_known t places)) (sym c.places-places.ensures) ∙ ap (anchor_or None) (sym (c.in-Ok.ensures.value told)) in
    subst (Sees (λ extents. extents) c.without_anchor.result) (sym is) c.without_anchor.ensures.value in
    record {
      value = saw;
      rising = λ told. holes_rise (λ extents. extents) c.without_anchor.result (anchor t c.args.last) (saw told) (anchor_rises t c.args.last c.requires.from);
      memory = λ told none. absurd (c.without_anchor.ensures.memory none);
      fails = tt;
    }

pub returns-in-Err-clause-memory : goal.returns-in-Err-clause-memory
returns-in-Err-clause-memory g c told same =
    let t = g.B.BlockStore.states c.args.blocks.now in
    anchor-memory t c.args.last
    (sym c.in_default.is ∙ c.in_ok-extents.ensures.value told ∙ ap (λ places. option_map extents_of (first_anchor t places)) c.places-places.ensures)
    (λ none. c.in-Err.ensures.memory told (ap (not_known t) c.places-places.ensures ∙ none))
