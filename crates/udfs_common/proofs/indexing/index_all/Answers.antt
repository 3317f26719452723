use Rattle.std.proofs.Common.{◌≡◌, arith, length}
use Rattle.udfs_common.proofs.IndexingLemmas.{indexed_all, indexed_none}
use Rattle.udfs_common.proofs.indexing.index_all.Goals as goal

pub loop-place-init : goal.loop-place-init
loop-place-init g c none = indexed_none _ c.args.paths.now c.args.stored.now c.args.force _ none

pub loop-place-preserved : goal.loop-place-preserved
loop-place-preserved g c none = c.in-Ok.ensures.table (c.loop-place.invariant none)

pub returns-in-Err-clause-why : goal.returns-in-Err-clause-why
returns-in-Err-clause-why g c none = c.in-Err.ensures.why (c.loop-place.invariant none)

pub returns-clause-table : goal.returns-clause-table
returns-clause-table g c none =
    let end = c.loop-place-test.false in
    let high = c.loop-place.auto.place-end in
    let last : c.loop-place.place ≡ length c.args.stored.now = omega (arith, end, high) in
    indexed_all _ c.args.paths.now c.args.stored.now c.loop-place.place c.args.force _ last (c.loop-place.invariant none)
