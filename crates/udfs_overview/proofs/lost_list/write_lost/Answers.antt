use Rattle.std.proofs.Common.{Ok, Err}
use Rattle.std.proofs.lemmas.Result.{err_from_is_err_and}
use Rattle.udfs_salvage.proofs.PublicLaws.{prints_then}
use Rattle.udfs_overview.proofs.lost_list.write_lost.Goals as goal

pub returns-in_err-flush-clause-printed : goal.returns-in_err-flush-clause-printed
returns-in_err-flush-clause-printed g c told =
    let W = g.W.Sink in
    let p = err_from_is_err_and c.from_residual-in_err-flush.result c.from_residual-in_err-flush.ensures.1 in
    rw (p.1, p.2) (prints_then {X = Unit {0}} (W.stream c.flush.new.sink) (Err c.in_err-flush.field-0.0) c.new-text.ensures.bytes (c.in_ok-put_both.ensures.printed told) c.in_err-flush.ensures.written)

pub returns-clause-printed : goal.returns-clause-printed
returns-clause-printed g c told =
    let W = g.W.Sink in
    prints_then {X = Unit {0}} (W.stream c.flush.new.sink) (Ok tt) c.new-text.ensures.bytes (c.in_ok-put_both.ensures.printed told) c.in_ok-flush.ensures.written
