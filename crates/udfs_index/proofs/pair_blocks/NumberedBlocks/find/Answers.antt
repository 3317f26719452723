use Rattle.std.proofs.Common.{arith}
use Rattle.udfs_rescue.specs.declared.known.BlockRange.{BlockRange}
use Rattle.udfs_index.proofs.PairPlacedLemmas.{find_it}
use Rattle.udfs_index.proofs.pair_blocks.NumberedBlocks.find.Goals as goal

abbrev none : BlockRange
none = record { start = 0; end = 0 }

pub returns-clause-some : goal.returns-clause-some
returns-clause-some c =
    (find_it c.args.self.now c.self.inside.known c.ranges-2.result.now c.self.inside.before.items c.deref.result.now c.last_at_most-index.result c.args.number c.index.result.now c.count.result none c.self.view_is c.ranges-2.ensures.value c.deref.ensures.value
    c.self.invariant c.ranges-2.ensures.blocks c.last_at_most-index.ensures.there c.last_at_most-index.ensures.most c.last_at_most-index.ensures.last c.index.ensures c.if-number-count.false c.count.ensures.value).block

pub overflow_add-first : goal.overflow_add-first
overflow_add-first c =
    let found = find_it c.args.self.now c.self.inside.known c.ranges-2.result.now c.self.inside.before.items c.deref.result.now c.last_at_most-index.result c.args.number c.index.result.now c.count.result none c.self.view_is c.ranges-2.ensures.value c.deref.ensures.value
    c.self.invariant c.ranges-2.ensures.blocks c.last_at_most-index.ensures.there c.last_at_most-index.ensures.most c.last_at_most-index.ensures.last c.index.ensures c.if-number-count.false c.count.ensures.value in
    omega (arith, found.below, found.high)

pub overflow_cast-result : goal.overflow_cast-result
overflow_cast-result c =
    let found = find_it c.args.self.now c.self.inside.known c.ranges-2.result.now c.self.inside.before.items c.deref.result.now c.last_at_most-index.result c.args.number c.index.result.now c.count.result none c.self.view_is c.ranges-2.ensures.value c.deref.ensures.value
    c.self.invariant c.ranges-2.ensures.blocks c.last_at_most-index.ensures.there c.last_at_most-index.ensures.most c.last_at_most-index.ensures.last c.index.ensures c.if-number-count.false c.count.ensures.value in
    omega (arith, found.below, found.high)

pub overflow_sub-result : goal.overflow_sub-result
overflow_sub-result c =
    let found = find_it c.args.self.now c.self.inside.known c.ranges-2.result.now c.self.inside.before.items c.deref.result.now c.last_at_most-index.result c.args.number c.index.result.now c.count.result none c.self.view_is c.ranges-2.ensures.value c.deref.ensures.value
    c.self.invariant c.ranges-2.ensures.blocks c.last_at_most-index.ensures.there c.last_at_most-index.ensures.most c.last_at_most-index.ensures.last c.index.ensures c.if-number-count.false c.count.ensures.value in
    omega (arith, found.below)

pub overflow_cast-result-2 : goal.overflow_cast-result-2
overflow_cast-result-2 c =
    let found = find_it c.args.self.now c.self.inside.known c.ranges-2.result.now c.self.inside.before.items c.deref.result.now c.last_at_most-index.result c.args.number c.index.result.now c.count.result none c.self.view_is c.ranges-2.ensures.value c.deref.ensures.value
    c.self.invariant c.ranges-2.ensures.blocks c.last_at_most-index.ensures.there c.last_at_most-index.ensures.most c.last_at_most-index.ensures.last c.index.ensures c.if-number-count.false c.count.ensures.value in
    omega (arith, found.high)
