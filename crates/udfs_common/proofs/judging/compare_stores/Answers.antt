use Rattle.std.proofs.Common.{◌≡◌, ◌+◌, ◌∙◌, arith, ap, ap₂, sym, ℕ}
use Rattle.udfs_index.specs.Comparing.{are_known, are_other}
use Rattle.udfs_lattice.specs.Tables.{state_of}
use Rattle.udfs_common.proofs.CountingLemmas.{counted_all, counted_none, known_next, other_next}
use Rattle.udfs_common.proofs.judging.compare_stores.Goals as goal

pub loop-block-init : goal.loop-block-init
loop-block-init g c = record {
  few = omega arith;
  fewer = omega arith;
  known = λ at bt t s first second. sym (counted_none (λ k x. are_known (state_of t k) x) s);
  other = λ at bt t s first second. sym (counted_none (λ k x. are_other (state_of t k) x) s);
}

pub loop-block-preserved : goal.loop-block-preserved
loop-block-preserved g c =
    let i = c.loop-block.invariant in
    let n = c.loop-block.block in
    let a = c.one_if-of.ensures.most in
    let b = c.one_if-blocks.ensures.most in
    let few = i.few in
    let fewer = i.fewer in
    record {
      few = omega (arith, a, few);
      fewer = omega (arith, b, fewer);
      known = λ at bt t s first second. ap (λ (k : ℕ). c.loop-block.of + k) c.one_if-of.ensures.value ∙ known_next t s n c.loop-block.of c.in_ok-known.known (c.in_ok-known.ensures.known at bt ∙ ap₂ are_known (first n) (second n)) (i.known at bt t s first second);
      other = λ at bt t s first second. ap (λ (k : ℕ). c.loop-block.blocks + k) c.one_if-blocks.ensures.value ∙ other_next t s n c.loop-block.blocks c.in_ok-known.other (c.in_ok-known.ensures.other at bt ∙ ap₂ are_other (first n) (second n)) (i.other at bt t s first second);
    }

pub returns-clause-blocks : goal.returns-clause-blocks
returns-clause-blocks g c at bt t s is first second =
    let end = c.loop-block-test.false in
    let high = c.loop-block.auto.block-end in
    let last : c.loop-block.block ≡ 4194304 = omega (arith, end, high) in
    c.loop-block.invariant.other at bt t s first second ∙ counted_all (λ k x. are_other (state_of t k) x) s c.loop-block.block last is

pub returns-clause-of : goal.returns-clause-of
returns-clause-of g c at bt t s is first second =
    let end = c.loop-block-test.false in
    let high = c.loop-block.auto.block-end in
    let last : c.loop-block.block ≡ 4194304 = omega (arith, end, high) in
    c.loop-block.invariant.known at bt t s first second ∙ counted_all (λ k x. are_known (state_of t k) x) s c.loop-block.block last is
