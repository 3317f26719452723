use Rattle.std.proofs.Common.{◌/◌, ◌<◌, ◌∙◌, sym, arith}
use Rattle.udfs_volume.specs.Sequence.{shorter}
use Rattle.udfs_volume.proofs.ApartCopies.{reaches_next}
use Rattle.udfs_lawfulness.proofs.Reached.{pairs_end, pairs_step}
use Rattle.udfs_lawfulness.proofs.sequences.push_pairs.Goals as goal

pub returns-then-not-on-clause-value : goal.returns-then-not-on-clause-value
returns-then-not-on-clause-value g c told =
    let M = g.B.BlockStore.states c.args.blocks.now in
    let e = c.args.extents in
    let i = c.loop-i.i in
    let less : i < shorter e / 2048 = omega (arith, c.loop-i-test.true, c.positions-i-end.ensures) in
    rw c.in_ok-push-2.ensures.items (rw c.in_ok-push.ensures.items (pairs_end M e c.loop-i.numbers.items i (shorter e / 2048) _ less (c.loop-i.invariant told).0 (sym (c.in_ok-on.ensures.value told) ∙ c.if-not-on.true) (c.loop-i.invariant told).1))

pub loop-i-preserved : goal.loop-i-preserved
loop-i-preserved g c told =
    let M = g.B.BlockStore.states c.args.blocks.now in
    let e = c.args.extents in
    let i = c.loop-i.i in
    let less : i < shorter e / 2048 = omega (arith, c.loop-i-test.true, c.positions-i-end.ensures) in (
      reaches_next M e i (c.loop-i.invariant told).0 (sym (c.in_ok-on.ensures.value told) ∙ c.if-not-on.false),
      rw c.in_ok-push-2.ensures.items (rw c.in_ok-push.ensures.items (pairs_step M e c.loop-i.numbers.items i (shorter e / 2048) _ less (c.loop-i.invariant told).0 (c.loop-i.invariant told).1)),
    )
