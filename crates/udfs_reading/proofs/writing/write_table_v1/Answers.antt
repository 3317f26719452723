use Rattle.std.proofs.lemmas.Result.{err_from_is_err_and}
use Rattle.udfs_reading.proofs.WritingLemmas.{wrote_all, failed_last, failed_first}
use Rattle.udfs_reading.proofs.writing.write_table_v1.Goals as goal

pub returns-in_err-write_entries : goal.returns-in_err-write_entries
returns-in_err-write_entries g c =
    let p = err_from_is_err_and c.from_residual.result c.from_residual.ensures.1 in
    rw p.1 (failed_first c.new-out.ensures c.in_err-write_entries.ensures)

pub returns-in_err-flush : goal.returns-in_err-flush
returns-in_err-flush g c =
    let p = err_from_is_err_and c.from_residual-in_err-flush.result c.from_residual-in_err-flush.ensures.1 in
    rw p.1 (failed_last c.new-out.ensures c.in_ok-write_entries.ensures c.in_err-flush.ensures.written)

pub returns : goal.returns
returns g c = wrote_all c.new-out.ensures c.in_ok-write_entries.ensures c.in_ok-flush.ensures.written
