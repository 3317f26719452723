use Rattle.std.proofs.lemmas.Result.{err_from_is_err_and}
use Rattle.udfs_reading.proofs.WritingLemmas.{failed_then, failed_more, passed_then}
use Rattle.udfs_reading.proofs.writing.write_state.Goals as goal

pub returns-in_err-push-in-Known : goal.returns-in_err-push-in-Known
returns-in_err-push-in-Known g c =
    let p = err_from_is_err_and c.from_residual.result c.from_residual.ensures.1 in
    rw (p.1, c.in-Known.is) (failed_more c.in-Known.bytes.now c.in_err-push-in-Known.ensures)

pub returns-in_err-push-in-Known-2 : goal.returns-in_err-push-in-Known-2
returns-in_err-push-in-Known-2 g c =
    let p = err_from_is_err_and c.from_residual-in_err-push-in-Known-2.result c.from_residual-in_err-push-in-Known-2.ensures.1 in
    rw (p.1, c.in-Known.is) (failed_then c.in_ok-push-in-Known.ensures c.in_err-push-in-Known-2.ensures)

pub returns-in_ok-push-in-Known-2 : goal.returns-in_ok-push-in-Known-2
returns-in_ok-push-in-Known-2 g c = rw c.in-Known.is (passed_then c.in_ok-push-in-Known.ensures c.in_ok-push-in-Known-2.ensures)
