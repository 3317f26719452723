use Rattle.std.proofs.Common.{◌≡◌, ◌+◌, ◌-◌, ℕ, suc, ap, sym, ◌∙◌, take, get_or, rules, arith}
use Rattle.udfs_rescue.specs.declared.known.BlockRange.{BlockRange}
use Rattle.udfs_rescue.specs.Known.{block_count}
use Rattle.udfs_index.proofs.PairPlacedLemmas.{more_numbered, one_more, range_at}
use Rattle.udfs_index.proofs.pair_blocks.numbers_of.Goals as goal

abbrev none : BlockRange
none = record { start = 0; end = 0 }

pub overflow_sub-count : goal.overflow_sub-count
overflow_sub-count c =
    let r = range_at c.args.ranges.now 0 c.loop-range.range-index none c.requires.rise c.requires.within c.loop-range-test.true in
    omega (arith, r.some)

pub overflow_cast-count : goal.overflow_cast-count
overflow_cast-count c =
    let r = range_at c.args.ranges.now 0 c.loop-range.range-index none c.requires.rise c.requires.within c.loop-range-test.true in
    omega (arith, r.within)

pub overflow_add-count : goal.overflow_add-count
overflow_add-count c =
    let r = range_at c.args.ranges.now 0 c.loop-range.range-index none c.requires.rise c.requires.within c.loop-range-test.true in
    omega (arith, r.within, r.some, r.above, c.loop-range.invariant.next)

pub loop-range-preserved : goal.loop-range-preserved
loop-range-preserved c =
    let next : c.loop-range.range-index + 1 ≡ suc c.loop-range.range-index = omega arith in
    record {
      each = search rules;
      many = more_numbered c.args.ranges.now _ _ c.loop-range.range-index c.loop-range.count c.in_ok-push.ensures.items c.loop-range.invariant.each c.loop-range.invariant.next c.loop-range.invariant.many;
      next = ap (λ (n : ℕ). n + ((get_or c.args.ranges.now c.loop-range.range-index none).end - (get_or c.args.ranges.now c.loop-range.range-index none).start)) c.loop-range.invariant.next ∙ sym (one_more c.args.ranges.now c.loop-range.range-index none c.loop-range-test.true) ∙ sym (ap (λ (n : ℕ). block_count (take n c.args.ranges.now)) next);
    }
