use Rattle.std.proofs.Common.{◌*◌, sym, ◌∙◌}
use Rattle.std.proofs.lemmas.Result.{err_from_is_err_and}
use Rattle.udfs_rescue.proofs.MapText.{takes_same, takes_other, other_fails}
use Rattle.udfs_rescue.proofs.writing.take_block.Goals as goal

pub returns-then-status_byte-clause-ok : goal.returns-then-status_byte-clause-ok
returns-then-status_byte-clause-ok g c =
    takes_same (g.W.Sink.stream c.args.sink.now) c.args.out.now c.args.run.now (record { at = 2048 * c.args.block; size = 2048; status = c.args.status })
    (sym c.status_byte.ensures ∙ c.if-status_byte.true ∙ c.status_byte-2.ensures)

pub returns-in_err-write_run-clause-err : goal.returns-in_err-write_run-clause-err
returns-in_err-write_run-clause-err g c =
    let p = err_from_is_err_and c.from_residual.result c.from_residual.ensures.1 in
    rw p.1 (other_fails c.args.run.now (record { at = 2048 * c.args.block; size = 2048; status = c.args.status })
    (λ e. c.if-status_byte.false (c.status_byte.ensures ∙ e ∙ sym c.status_byte-2.ensures)) c.in_err-write_run.ensures)

pub returns-clause-ok : goal.returns-clause-ok
returns-clause-ok g c =
    rw c.from.ensures
    (takes_other c.args.run.now (record { at = 2048 * c.args.block; size = 2048; status = c.args.status })
    (λ e. c.if-status_byte.false (c.status_byte.ensures ∙ e ∙ sym c.status_byte-2.ensures)) c.in_ok-write_run.ensures)
