use Rattle.std.proofs.Common.{◌≡◌, ◌<◌, ◌∙◌, ap, sym, None, Some, arith}
use Rattle.udfs_volume.specs.Layout.{blocks_in}
use Rattle.udfs_lawfulness.specs.Searching.{apart_in}
use Rattle.udfs_lawfulness.proofs.Rows.{first_here, first_skip}
use Rattle.udfs_lawfulness.proofs.tables.copies_apart.Goals as goal

pub returns-in-Some-clause-value : goal.returns-in-Some-clause-value
returns-in-Some-clause-value g c told =
    let blocks = g.B.BlockStore.states c.args.blocks.now in
    let map = c.args.map.now in
    let less : c.loop-k.k < blocks_in map.size = omega (arith, c.loop-k-test.true, c.blocks_in-k-end.ensures) in
    let same : apart_in blocks map.size map.tables.items c.loop-k.k ≡ Some c.in-Some.pair =
    ap (λ tables. apart_in blocks map.size tables c.loop-k.k) (sym c.deref.ensures.value) ∙ sym (c.in_ok-found.ensures.value told) ∙ c.in-Some.is in
    sym (first_here (apart_in blocks map.size map.tables.items) c.loop-k.k (blocks_in map.size) c.in-Some.pair less same) ∙ c.loop-k.invariant told

pub loop-k-preserved : goal.loop-k-preserved
loop-k-preserved g c told =
    let blocks = g.B.BlockStore.states c.args.blocks.now in
    let map = c.args.map.now in
    let less : c.loop-k.k < blocks_in map.size = omega (arith, c.loop-k-test.true, c.blocks_in-k-end.ensures) in
    let same : apart_in blocks map.size map.tables.items c.loop-k.k ≡ None =
    ap (λ tables. apart_in blocks map.size tables c.loop-k.k) (sym c.deref.ensures.value) ∙ sym (c.in_ok-found.ensures.value told) ∙ c.in_default.is in
    first_skip (apart_in blocks map.size map.tables.items) c.loop-k.k (blocks_in map.size) less same ∙ c.loop-k.invariant told
