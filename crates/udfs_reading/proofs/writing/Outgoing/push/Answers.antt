use Rattle.std.proofs.lemmas.Result.{err_from_is_err_and}
use Rattle.udfs_reading.proofs.WritingLemmas.{push_fails}
use Rattle.udfs_reading.proofs.writing.Outgoing.push.Goals as goal

pub returns-in_err-flush : goal.returns-in_err-flush
returns-in_err-flush g c =
    let p = err_from_is_err_and c.from_residual.result c.from_residual.ensures.1 in
    rw p.1 (push_fails c.args.bytes.now c.in_err-flush.ensures.written)
