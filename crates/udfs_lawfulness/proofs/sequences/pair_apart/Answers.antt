use Rattle.std.proofs.Common.{◌≡◌, ◌/◌, ◌<◌, ◌∙◌, refl, sym, false, arith}
use Rattle.udfs_volume.specs.Differences.{differ_at}
use Rattle.udfs_volume.specs.Sequence.{shorter}
use Rattle.udfs_volume.proofs.ApartCopies.{differ_later, differ_nowhere, reaches_next}
use Rattle.udfs_lawfulness.proofs.sequences.pair_apart.Goals as goal

pub returns-then-differ-clause-value : goal.returns-then-differ-clause-value
returns-then-differ-clause-value g c told = record {
  place = c.loop-i.i;
  inside = omega (arith, c.loop-i-test.true, c.positions-i-end.ensures);
  reached = (c.loop-i.invariant told).0;
  differ = sym (c.in_ok-differ.ensures.value told) ∙ c.if-differ.true;
  main_is = refl;
  reserve_is = refl;
}

pub returns-then-not-on-clause-value : goal.returns-then-not-on-clause-value
returns-then-not-on-clause-value g c told =
    let M = g.B.BlockStore.states c.args.blocks.now in
    let e = c.args.extents in
    let i = c.loop-i.i in
    let less : i < shorter e / 2048 = omega (arith, c.loop-i-test.true, c.positions-i-end.ensures) in
    let differ : differ_at M e i ≡ false = sym (c.in_ok-differ.ensures.value told) ∙ c.if-differ.false in
    sym (c.loop-i.invariant told).1 ∙ differ_nowhere M e i (shorter e / 2048) less differ (sym (c.in_ok-on.ensures.value told) ∙ c.if-not-on.true)

pub loop-i-preserved : goal.loop-i-preserved
loop-i-preserved g c told =
    let M = g.B.BlockStore.states c.args.blocks.now in
    let e = c.args.extents in
    let i = c.loop-i.i in
    let less : i < shorter e / 2048 = omega (arith, c.loop-i-test.true, c.positions-i-end.ensures) in
    let differ : differ_at M e i ≡ false = sym (c.in_ok-differ.ensures.value told) ∙ c.if-differ.false in (
      reaches_next M e i (c.loop-i.invariant told).0 (sym (c.in_ok-on.ensures.value told) ∙ c.if-not-on.false),
      differ_later M e i (shorter e / 2048) less differ ∙ (c.loop-i.invariant told).1,
    )
