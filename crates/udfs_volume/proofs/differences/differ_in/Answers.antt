use Rattle.std.proofs.Common.{◌≡◌, ◌/◌, ◌∙◌, sym, true, false}
use Rattle.udfs_volume.specs.Differences.{differ_at}
use Rattle.udfs_volume.proofs.ApartCopies.{differ_here, differ_later, differ_nowhere, reaches_next}
use Rattle.udfs_volume.proofs.differences.differ_in.Goals as goal

pub returns-then-differ-clause-value : goal.returns-then-differ-clause-value
returns-then-differ-clause-value g c told =
    let M = g.B.BlockStore.states c.args.blocks.now in
    let e = c.args.extents in
    let i = c.loop-i.i in
    let differ : differ_at M e i ≡ true = sym (c.in_ok-differ.ensures.value told) ∙ c.if-differ.true in
    sym (differ_here M e i (e.main.length / 2048) c.loop-i-test.true (c.loop-i.invariant told).0 differ) ∙ (c.loop-i.invariant told).1

pub returns-then-not-on-clause-value : goal.returns-then-not-on-clause-value
returns-then-not-on-clause-value g c told =
    let M = g.B.BlockStore.states c.args.blocks.now in
    let e = c.args.extents in
    let i = c.loop-i.i in
    let differ : differ_at M e i ≡ false = sym (c.in_ok-differ.ensures.value told) ∙ c.if-differ.false in
    sym (differ_nowhere M e i (e.main.length / 2048) c.loop-i-test.true differ (sym (c.in_ok-on.ensures.value told) ∙ c.if-not-on.true)) ∙ (c.loop-i.invariant told).1

pub loop-i-preserved : goal.loop-i-preserved
loop-i-preserved g c told =
    let M = g.B.BlockStore.states c.args.blocks.now in
    let e = c.args.extents in
    let i = c.loop-i.i in
    let differ : differ_at M e i ≡ false = sym (c.in_ok-differ.ensures.value told) ∙ c.if-differ.false in (
      reaches_next M e i (c.loop-i.invariant told).0 (sym (c.in_ok-on.ensures.value told) ∙ c.if-not-on.false),
      differ_later M e i (e.main.length / 2048) c.loop-i-test.true differ ∙ (c.loop-i.invariant told).1,
    )
