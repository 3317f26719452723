use Rattle.std.proofs.Common.{ℕ, List, Option, subst, ◌∙◌}
use Rattle.udfs_lattice.specs.Tables.{join_tables}
use Rattle.udfs_reading.specs.Gains.{LeavesReading, TakesReading}
use Rattle.udfs_reading.specs.Inputs.{inputs}
use Rattle.udfs_reading.specs.Several.{Joins}
use Rattle.udfs_reading.proofs.TakenWhole.{gains_reading, stops_reading, taken_since}
use Rattle.udfs_reading.proofs.Whole.{joins_whole}
use Rattle.udfs_reading.proofs.inputs.take_input.Goals as goal

pub returns-in-Ok-true-clause-ok : goal.returns-in-Ok-true-clause-ok
returns-in-Ok-true-clause-ok g c =
    gains_reading (subst (λ (o : Option (List ℕ)). TakesReading (g.T.Taker.took c.args.taker.now) (g.T.Taker.took c.take_records.new.self) o (g.R.Source.remaining c.take_records.new.source)) c.begin.ensures.unread
    (taken_since c.begin.ensures.same (c.in-Ok-true.ensures.taken c.in-Ok-true.field-0-test)))

pub returns-in_ok-join_any-in-Ok-false-clause-ok : goal.returns-in_ok-join_any-in-Ok-false-clause-ok
returns-in_ok-join_any-in-Ok-false-clause-ok g c =
    let a = g.R.Source.remaining c.args.source.now in
    let b = g.R.Source.remaining c.join_any.new.source in
    let read = c.in_ok-join_any-in-Ok-false.ensures.ok in
    record {
      read = read.read;
      each = λ t. subst (λ (o : Option (List ℕ)). Joins inputs o b t (join_tables t read.read)) (c.in-Ok-false.ensures.unread c.in-Ok-false.field-0-test ∙ c.begin.ensures.unread)
          (joins_whole inputs _ _ (g.R.Source.remaining c.take_records.new.source) b _ _ c.clear.ensures.bytes c.in_ok-join_any-in-Ok-false.ensures.done (read.each t));
      took = λ t h. read.took t (c.in-Ok-false.ensures.same c.in-Ok-false.field-0-test t (c.begin.ensures.same t h));
    }

pub returns-in-Err-clause-err : goal.returns-in-Err-clause-err
returns-in-Err-clause-err g c =
    stops_reading _ _ c.in-Err.number (c.in-Err.ensures.count ∙ c.begin.ensures.count)
    (subst (λ (o : Option (List ℕ)). LeavesReading o (g.R.Source.remaining c.take_records.new.source) c.in-Err.number) c.begin.ensures.unread c.in-Err.ensures.left)
