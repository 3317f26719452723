use Rattle.std.proofs.Common.{◌≡◌, ◌<◌, ◌∙◌, ap, sym, true, false, arith}
use Rattle.udfs_volume.specs.Layout.{blocks_in}
use Rattle.udfs_overview.specs.Spares.{differ_in}
use Rattle.udfs_overview.proofs.CopyLoops.{any_hit, any_skip}
use Rattle.udfs_overview.proofs.spares.copies_disagree.Goals as goal

pub loop-k-preserved : goal.loop-k-preserved
loop-k-preserved g c told =
    let blocks = g.B.BlockStore.states c.args.blocks.now in
    let map = c.args.map.now in
    let less : c.loop-k.k < blocks_in map.size = omega (arith, c.loop-k-test.true, c.blocks_in-k-end.ensures) in
    let same : differ_in blocks map.size map.tables.items c.loop-k.k ≡ false =
    ap (λ tables. differ_in blocks map.size tables c.loop-k.k) (sym c.deref.ensures.value) ∙ sym (c.in_ok-differ_in.ensures.value told) ∙ c.if-branch.false in
    any_skip (differ_in blocks map.size map.tables.items) c.loop-k.k (blocks_in map.size) less same ∙ c.loop-k.invariant told

pub returns-then-branch-clause-value : goal.returns-then-branch-clause-value
returns-then-branch-clause-value g c told =
    let blocks = g.B.BlockStore.states c.args.blocks.now in
    let map = c.args.map.now in
    let less : c.loop-k.k < blocks_in map.size = omega (arith, c.loop-k-test.true, c.blocks_in-k-end.ensures) in
    let same : differ_in blocks map.size map.tables.items c.loop-k.k ≡ true =
    ap (λ tables. differ_in blocks map.size tables c.loop-k.k) (sym c.deref.ensures.value) ∙ sym (c.in_ok-differ_in.ensures.value told) ∙ c.if-branch.true in
    any_hit (differ_in blocks map.size map.tables.items) c.loop-k.k (blocks_in map.size) less same ∙ c.loop-k.invariant told
