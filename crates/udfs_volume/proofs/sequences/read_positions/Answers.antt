use Rattle.std.proofs.Common.{◌/◌, ◌+◌, ◌-◌, ◌∷◌, [], sym, ◌∙◌, ap, map}
use Rattle.std.specs.List.{range_with_len}
use Rattle.std.proofs.lemmas.Bool.{ne_eqb}
use Rattle.std.proofs.lemmas.List.{map-append}
use Rattle.udfs_volume.specs.Answers.{holes}
use Rattle.udfs_volume.specs.Sequence.{positions, read_positions}
use Rattle.udfs_volume.specs.Sequences.{descriptor_now, position_now}
use Rattle.udfs_volume.proofs.Walking.{after, row, stops-unread, stops-invalid, stops-pointer, stops-end, goes-on}
use Rattle.udfs_volume.proofs.sequences.read_positions.Goals as goal

pub returns-in-Unread-clause-value : goal.returns-in-Unread-clause-value
returns-in-Unread-clause-value g c told =
    let t = g.B.BlockStore.states c.args.blocks.now in
    let e = c.args.extents in
    stops-unread (row t e) c.loop-i.i (e.main.length / 2048) (map descriptor_now c.loop-i.descriptors.items) (read_positions (positions t e)) _ c.loop-i-test.true (ap (position_now ((e.main.block + c.loop-i.i) ∷ (e.reserve.block + c.loop-i.i) ∷ [])) (sym c.in-Unread.is) ∙ c.in_ok-read_position.ensures.value told) (c.loop-i.invariant told)
    ∙ ap holes (sym c.in_ok-ascending-in-Unread.ensures)

pub returns-in-Invalid-clause-value : goal.returns-in-Invalid-clause-value
returns-in-Invalid-clause-value g c told =
    let t = g.B.BlockStore.states c.args.blocks.now in
    let e = c.args.extents in
    stops-invalid (row t e) c.loop-i.i (e.main.length / 2048) (map descriptor_now c.loop-i.descriptors.items) (read_positions (positions t e)) c.loop-i-test.true (ap (position_now ((e.main.block + c.loop-i.i) ∷ (e.reserve.block + c.loop-i.i) ∷ [])) (sym c.in-Invalid.is) ∙ c.in_ok-read_position.ensures.value told) (c.loop-i.invariant told)

pub returns-then-descriptor-eq-VOLUME_DESCRIPTOR_POINTER-clause-value : goal.returns-then-descriptor-eq-VOLUME_DESCRIPTOR_POINTER-clause-value
returns-then-descriptor-eq-VOLUME_DESCRIPTOR_POINTER-clause-value g c told =
    let t = g.B.BlockStore.states c.args.blocks.now in
    let e = c.args.extents in
    stops-pointer (row t e) c.loop-i.i (e.main.length / 2048) (map descriptor_now c.loop-i.descriptors.items) (read_positions (positions t e)) (descriptor_now c.in-Descriptor.descriptor) c.loop-i-test.true (ap (position_now ((e.main.block + c.loop-i.i) ∷ (e.reserve.block + c.loop-i.i) ∷ [])) (sym c.in-Descriptor.is) ∙ c.in_ok-read_position.ensures.value told) c.if-descriptor-eq-VOLUME_DESCRIPTOR_POINTER.true (c.loop-i.invariant told)

pub returns-then-descriptor-eq-TERMINATING-clause-value : goal.returns-then-descriptor-eq-TERMINATING-clause-value
returns-then-descriptor-eq-TERMINATING-clause-value g c told =
    let t = g.B.BlockStore.states c.args.blocks.now in
    let e = c.args.extents in
    stops-end (row t e) c.loop-i.i (e.main.length / 2048) (map descriptor_now c.loop-i.descriptors.items) (read_positions (positions t e)) (descriptor_now c.in-Descriptor.descriptor) c.loop-i-test.true (ap (position_now ((e.main.block + c.loop-i.i) ∷ (e.reserve.block + c.loop-i.i) ∷ [])) (sym c.in-Descriptor.is) ∙ c.in_ok-read_position.ensures.value told) c.if-descriptor-eq-TERMINATING.true (c.loop-i.invariant told)

pub loop-i-preserved : goal.loop-i-preserved
loop-i-preserved g c told =
    let t = g.B.BlockStore.states c.args.blocks.now in
    let e = c.args.extents in
    let old = c.loop-i.descriptors.items in
    let d = c.in-Descriptor.descriptor in
    let rest = read_positions (map (row t e) (range_with_len (c.loop-i.i + 1) (e.main.length / 2048 - (c.loop-i.i + 1)))) in
    ap (λ ds. after (map descriptor_now ds) rest) c.in_ok-push-in-Descriptor.ensures.items
    ∙ ap (λ ds. after ds rest) (map-append descriptor_now old (d ∷ []))
    ∙ goes-on (row t e) c.loop-i.i (e.main.length / 2048) (map descriptor_now old) (read_positions (positions t e)) (descriptor_now d) c.loop-i-test.true (ap (position_now ((e.main.block + c.loop-i.i) ∷ (e.reserve.block + c.loop-i.i) ∷ [])) (sym c.in-Descriptor.is) ∙ c.in_ok-read_position.ensures.value told) (ne_eqb d.identifier 3 c.if-descriptor-eq-VOLUME_DESCRIPTOR_POINTER.false) (ne_eqb d.identifier 8 c.if-descriptor-eq-TERMINATING.false) (c.loop-i.invariant told)
