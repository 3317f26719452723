use Rattle.std.proofs.Common.{◌∙◌, sym, ap, subst, length, drop, ◌+◌, arith}
use Rattle.udfs_walk.specs.BlockRuns.{blocks_of}
use Rattle.udfs_walk.proofs.KnownGaps.{blocks_more}
use Rattle.udfs_walk.proofs.BlockOrder.{IsJoining, empty, ends_at, none, parts_at, starts, touches_at}
use Rattle.udfs_walk.proofs.block_runs.joined.Goals as goal
use Rattle.udfs_walk.proofs.block_runs.joined.Goals.{then-saturating_sub-le1, else-saturating_sub-le1+in_ok-push}

pub returns-in_default : goal.returns-in_default
returns-in_default c = empty c.new-joined.result.items c.args.runs.now c.new-joined.ensures.items c.in_default.ensures.cases

pub loop-run-init : goal.loop-run-init
loop-run-init c = starts c.args.runs.now c.in-Some.rest.now c.in-Some.first.now (blocks_of c.new-joined.result.items) c.in-Some.ensures.cases.0 c.requires (none _ (ap length c.new-joined.ensures.items))

pub loop-run-preserved : goal.loop-run-preserved
loop-run-preserved c = elim c.if-saturating_sub-le1.branch [
  | then-saturating_sub-le1 w ↦ subst (λ z. IsJoining c.args.runs.now (drop (c.loop-run.run-index + 1) c.in-Some.rest.now) (blocks_of z.items) c.if-saturating_sub-le1.tail) (sym w.joined-is)
      (touches_at c.args.runs.now c.in-Some.rest.now c.loop-run.run-index _ (blocks_of c.loop-run.joined.items) c.loop-run.tail c.if-saturating_sub-le1.tail c.loop-run-test.true c.loop-run.invariant
      (omega (arith, w.if-saturating_sub-le1.true, c.saturating_sub.ensures)) (ap (λ z. z.first) w.tail-is) (ap (λ z. z.last) w.tail-is ∙ w.max.ensures))
  | else-saturating_sub-le1+in_ok-push w ↦ subst (λ z. IsJoining c.args.runs.now (drop (c.loop-run.run-index + 1) c.in-Some.rest.now) (blocks_of c.if-saturating_sub-le1.joined.items) z) (sym w.tail-is)
      (parts_at c.args.runs.now c.in-Some.rest.now c.loop-run.run-index _ (blocks_of c.loop-run.joined.items) (blocks_of c.if-saturating_sub-le1.joined.items) c.loop-run.tail c.loop-run-test.true c.loop-run.invariant
      (omega (arith, w.if-saturating_sub-le1.false, c.saturating_sub.ensures)) (ap (λ z. blocks_of z.items) w.joined-is ∙ ap blocks_of w.in_ok-push.ensures.items ∙ blocks_more c.loop-run.joined.items c.loop-run.tail))
]

pub returns : goal.returns
returns c = ends_at c.args.runs.now c.in-Some.rest.now c.loop-run.run-index (blocks_of c.loop-run.joined.items) _ c.loop-run.tail c.loop-run-test.false c.loop-run.invariant
    (ap blocks_of c.in_ok-push-2.ensures.items ∙ blocks_more c.loop-run.joined.items c.loop-run.tail)
