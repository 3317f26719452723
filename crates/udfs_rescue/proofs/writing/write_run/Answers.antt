use Rattle.std.proofs.Common.{[], ◌∷◌, refl}
use Rattle.std.proofs.lemmas.Result.{err_from_is_err_and}
use Rattle.udfs_rescue.specs.Writing.{status_byte, position_text, gap}
use Rattle.udfs_rescue.proofs.MapText.{taken, fails, fails_before, line_taken, line_fails}
use Rattle.udfs_rescue.proofs.writing.write_run.Goals as goal

pub returns-in_err-write_position : goal.returns-in_err-write_position
returns-in_err-write_position g c =
    let p = err_from_is_err_and c.from_residual.result c.from_residual.ensures.1 in
    rw p.1 (line_fails c.args.run (status_byte c.args.run.status) refl (fails_before ((status_byte c.args.run.status) ∷ 10 ∷ []) (fails_before gap (fails_before (position_text c.args.run.size) (fails_before gap c.in_err-write_position.ensures)))))

pub returns-in_err-push : goal.returns-in_err-push
returns-in_err-push g c =
    let p = err_from_is_err_and c.from_residual-in_err-push.result c.from_residual-in_err-push.ensures.1 in
    rw p.1 (line_fails c.args.run (status_byte c.args.run.status) refl (fails_before ((status_byte c.args.run.status) ∷ 10 ∷ []) (fails_before gap (fails_before (position_text c.args.run.size) (fails c.in_ok-write_position.ensures c.in_err-push.ensures)))))

pub returns-in_err-write_position-2 : goal.returns-in_err-write_position-2
returns-in_err-write_position-2 g c =
    let p = err_from_is_err_and c.from_residual-in_err-write_position-2.result c.from_residual-in_err-write_position-2.ensures.1 in
    rw p.1 (line_fails c.args.run (status_byte c.args.run.status) refl (fails_before ((status_byte c.args.run.status) ∷ 10 ∷ []) (fails_before gap (fails (taken c.in_ok-write_position.ensures c.in_ok-push.ensures) c.in_err-write_position-2.ensures))))

pub returns-in_err-push-2 : goal.returns-in_err-push-2
returns-in_err-push-2 g c =
    let p = err_from_is_err_and c.from_residual-in_err-push-2.result c.from_residual-in_err-push-2.ensures.1 in
    rw p.1 (line_fails c.args.run (status_byte c.args.run.status) refl (fails_before ((status_byte c.args.run.status) ∷ 10 ∷ []) (fails (taken (taken c.in_ok-write_position.ensures c.in_ok-push.ensures) c.in_ok-write_position-2.ensures) c.in_err-push-2.ensures)))

pub returns-in_err-push-3 : goal.returns-in_err-push-3
returns-in_err-push-3 g c =
    let p = err_from_is_err_and c.from_residual-in_err-push-3.result c.from_residual-in_err-push-3.ensures.1 in
    rw p.1 (line_fails c.args.run c.status_byte.result c.status_byte.ensures (fails (taken (taken (taken c.in_ok-write_position.ensures c.in_ok-push.ensures) c.in_ok-write_position-2.ensures) c.in_ok-push-2.ensures) c.in_err-push-3.ensures))

pub returns : goal.returns
returns g c = line_taken c.args.run c.status_byte.result c.status_byte.ensures (taken (taken (taken (taken c.in_ok-write_position.ensures c.in_ok-push.ensures) c.in_ok-write_position-2.ensures) c.in_ok-push-2.ensures) c.in_ok-push-3.ensures)
