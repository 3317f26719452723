use Rattle.std.proofs.Common.{sym, subst}
use Rattle.udfs_salvage.specs.Running.{IsRefusedForBy}
use Rattle.udfs_salvage.proofs.Runs.{named, refuses}
use Rattle.udfs_salvage.proofs.running.report_run_by.Goals as goal

pub returns-in-Ok-clause-first : goal.returns-in-Ok-clause-first
returns-in-Ok-clause-first g c = λ input fault number h. absurd (c.in-Ok.ensures.first input fault number h)

pub returns-in-Err-clause-first : goal.returns-in-Err-clause-first
returns-in-Err-clause-first g c = λ input fault number h. named c.in-Err.error c.run_error.result input fault number c.run_error.ensures (c.in-Err.ensures.first input fault number h)

pub returns-in-Ok-clause-refuses : goal.returns-in-Ok-clause-refuses
returns-in-Ok-clause-refuses g c = λ ts why told q.
    let W = g.W.Sink in
    refuses c.args.profile c.args.last (W.stream c.args.sink.now) (W.stream c.report_table.new.sink) c.report_table.result _ why
    c.report_table.ensures.answers (subst (λ t. IsRefusedForBy c.args.profile t c.args.last why) (sym (c.in-Ok.ensures.good ts told)) q)
