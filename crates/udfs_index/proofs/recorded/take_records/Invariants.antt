-- The records so far were taken.
use Rattle.udfs_index.proofs.RecordedLemmas.{TookFront}
use Rattle.udfs_index.proofs.recorded.take_records.Given as goal

abbrev pub invariant-loop-number : goal.invariant-loop-number
invariant-loop-number g l =
    record {
      front : TookFront (g.S.Stored.content l.fn.source.stored.now) (g.T.RecordTaker.input l.fn.taker) l.count l.number (g.T.RecordTaker.took l.fn.taker) (g.T.RecordTaker.took l.taker) (g.T.RecordTaker.input l.taker);
    }
