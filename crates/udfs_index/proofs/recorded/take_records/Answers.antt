use Rattle.std.proofs.Common.{◌≡◌, ℕ, ◌+◌, IfSome, sym, subst, arith, rules}
use Rattle.std.specs.Borrow.{Bor}
use Rattle.udfs_reading.specs.Gains.{LeavesReading, TakesReading}
use Rattle.udfs_index.specs.Places.{behind}
use Rattle.udfs_index.specs.Recorded.{HasRecords, TakesNext}
use Rattle.udfs_index.proofs.RecordedLemmas.{TookFront, all_taken, some_left, took_next, took_none}
use Rattle.udfs_index.proofs.recorded.take_records.Goals as goal

pub loop-number-init : goal.loop-number-init
loop-number-init g c =
    record {
      front = took_none (g.S.Stored.content c.args.source.now.stored.now) (g.T.RecordTaker.input c.args.taker.now) c.in-Some.count (search rules)
          (subst (λ (s : Bor _). IfSome (g.S.Stored.content s.now) (λ all. HasRecords all c.in-Some.count)) c.place-at.ensures.stored c.in-Some.ensures);
    }

pub loop-number-preserved : goal.loop-number-preserved
loop-number-preserved g c =
    record {
      front = took_next (g.S.Stored.content c.args.source.now.stored.now) (g.T.RecordTaker.input c.args.taker.now) c.in-Some.count c.loop-number.number (omega (arith, c.loop-number-test.true)) c.loop-number.invariant.front
          (subst (λ (s : Bor _). TakesNext (g.S.Stored.content s.now) c.loop-number.number (g.T.RecordTaker.took c.loop-number.taker) (g.T.RecordTaker.took c.take_record.new.self)) c.place-at.ensures.stored c.in-Ok.ensures.next) c.in-Ok.ensures.input;
    }

pub returns-in_default-block_of-clause-left : goal.returns-in_default-block_of-clause-left
returns-in_default-block_of-clause-left g c =
    let content = g.S.Stored.content c.args.source.now.stored.now in
    subst (λ (s : Bor _). LeavesReading (behind c.args.source.now.at content) (behind c.move_to.new.self.at (g.S.Stored.content s.now)) (c.loop-number.number + 1)) (sym c.move_to.ensures.stored)
    (some_left content c.in-Some.count c.args.source.now.at c.move_to.new.self.at c.loop-number.number (omega (arith, c.if-at-gt0.false, c.place-at.ensures.at)) (omega (arith, c.move_to.ensures.at)) (search rules) (omega (arith, c.loop-number-test.true))
    (subst (λ (s : Bor _). IfSome (g.S.Stored.content s.now) (λ all. HasRecords all c.in-Some.count)) c.place-at.ensures.stored c.in-Some.ensures))

pub returns-in-Err-clause-left : goal.returns-in-Err-clause-left
returns-in-Err-clause-left g c =
    let content = g.S.Stored.content c.args.source.now.stored.now in
    subst (λ (s : Bor _). LeavesReading (behind c.args.source.now.at content) (behind c.move_to.new.self.at (g.S.Stored.content s.now)) (c.loop-number.number + 1)) (sym c.move_to.ensures.stored)
    (some_left content c.in-Some.count c.args.source.now.at c.move_to.new.self.at c.loop-number.number (omega (arith, c.if-at-gt0.false, c.place-at.ensures.at)) (omega (arith, c.move_to.ensures.at)) (search rules) (omega (arith, c.loop-number-test.true))
    (subst (λ (s : Bor _). IfSome (g.S.Stored.content s.now) (λ all. HasRecords all c.in-Some.count)) c.place-at.ensures.stored c.in-Some.ensures))

pub returns-clause-taken : goal.returns-clause-taken
returns-clause-taken g c e =
    let content = g.S.Stored.content c.args.source.now.stored.now in
    let all : c.loop-number.number ≡ c.in-Some.count = omega (arith, c.loop-number-test.false, c.loop-number.auto.number-end) in
    subst (λ (s : Bor _). TakesReading (g.T.RecordTaker.took c.args.taker.now) (g.T.RecordTaker.took c.loop-number.taker) (behind c.args.source.now.at content) (behind c.move_to.new.self.at (g.S.Stored.content s.now))) (sym c.move_to.ensures.stored)
    (all_taken {input_now = g.T.RecordTaker.input c.loop-number.taker} content (g.T.RecordTaker.input c.args.taker.now) c.in-Some.count c.args.source.now.at c.move_to.new.self.at (omega (arith, c.if-at-gt0.false, c.place-at.ensures.at)) (omega (arith, c.move_to.ensures.at))
    (subst (λ (k : ℕ). TookFront content (g.T.RecordTaker.input c.args.taker.now) c.in-Some.count k (g.T.RecordTaker.took c.args.taker.now) (g.T.RecordTaker.took c.loop-number.taker) (g.T.RecordTaker.input c.loop-number.taker)) all c.loop-number.invariant.front))
