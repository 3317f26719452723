use Rattle.std.proofs.Common.{◌≡◌, ◌∙◌, ◌+◌, ◌-◌, ◌<◌, ◌^◌, ◌==◌, ◌&&◌, ap, arith, cond, get_or, length, refl, sym}
use Rattle.std.specs.List.{range_with_len}
use Rattle.udfs_page.specs.Arcs.{arc_of, is_counted, is_seen}
use Rattle.udfs_page.proofs.Counts.{all_counted, none_counted, none_left, one_more, range_size, seen_counted, unroll}
use Rattle.udfs_page.proofs.disc_arcs.count_states.Goals as goal

pub loop-number-preserved : goal.loop-number-preserved
loop-number-preserved g c =
    let states = g.B.BlockStore.states c.args.store.now in
    let k = c.args.conflicts in
    let blocks = c.args.blocks in
    let n = c.loop-number.number in
    let count = length c.args.counts.now in
    let before = c.loop-number.counts in
    let after = c.count_fact.new.counts in
    let size = c.loop-number.invariant.size in
    let few : length (range_with_len 0 blocks) < 2 ^ 64 - 1 = let e = range_size 0 blocks in let most = c.requires.most in omega (arith, e, most) in
    record {
      size = c.count_fact.ensures.size ∙ size;
      counted = λ told. one_more (λ i m. is_counted k (states m) && arc_of count blocks m == i) (range_with_len 0 blocks) (range_with_len n (blocks - n)) (range_with_len (n + 1) (blocks - (n + 1)))
          n before after few (unroll n blocks c.loop-number-test.true) c.count_fact.ensures.size
          (λ i less small. c.count_fact.ensures.counted i less small
          ∙ (λ j. get_or before i 0 + cond ((ap (is_seen k) (c.knowledge.ensures told) ∙ seen_counted k (states n)) j && arc_of (size j) blocks n == i) 1 0)) (c.loop-number.invariant.counted told);
    }

pub returns : goal.returns
returns g c = record {
  size = c.loop-number.invariant.size;
  counted = λ told i less. all_counted _ (range_with_len 0 c.args.blocks) _ c.loop-number.counts (none_left c.loop-number.number c.args.blocks (omega (arith, c.loop-number-test.false)))
      (c.loop-number.invariant.counted told) i (let size = c.loop-number.invariant.size in omega (arith, less, size));
}
