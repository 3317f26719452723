use Rattle.std.proofs.Common.{[], ◌∷◌}
use Rattle.std.proofs.lemmas.Result.{err_from_is_err_and}
use Rattle.udfs_reading.proofs.WritingLemmas.{passed_then, failed_then, failed_more}
use Rattle.udfs_index.proofs.entries.put_conflict.Goals as goal

pub returns-in_err-write_number : goal.returns-in_err-write_number
returns-in_err-write_number g c =
    let p = err_from_is_err_and c.from_residual.result c.from_residual.ensures.1 in
    rw p.1 (failed_more (2 ∷ []) c.in_err-write_number.ensures)

pub returns-in_err-push : goal.returns-in_err-push
returns-in_err-push g c =
    let p = err_from_is_err_and c.from_residual-in_err-push.result c.from_residual-in_err-push.ensures.1 in
    rw p.1 (failed_then c.in_ok-write_number.ensures c.in_err-push.ensures)

pub returns : goal.returns
returns g c = passed_then c.in_ok-write_number.ensures c.in_ok-push.ensures
