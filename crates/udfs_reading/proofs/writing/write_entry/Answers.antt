use Rattle.std.proofs.lemmas.Result.{err_from_is_err_and}
use Rattle.udfs_lattice.specs.States.{fact_now}
use Rattle.udfs_reading.specs.TableFile.{state_bytes}
use Rattle.udfs_reading.proofs.WritingLemmas.{failed_then, failed_more, passed_then}
use Rattle.udfs_reading.proofs.writing.write_entry.Goals as goal

pub returns-in_err-write_number : goal.returns-in_err-write_number
returns-in_err-write_number g c =
    let p = err_from_is_err_and c.from_residual.result c.from_residual.ensures.1 in
    rw p.1 (failed_more (state_bytes (fact_now c.args.fact)) c.in_err-write_number.ensures)

pub returns-in_err-write_state : goal.returns-in_err-write_state
returns-in_err-write_state g c =
    let p = err_from_is_err_and c.from_residual-in_err-write_state.result c.from_residual-in_err-write_state.ensures.1 in
    rw p.1 (failed_then c.in_ok-write_number.ensures c.in_err-write_state.ensures)

pub returns : goal.returns
returns g c = passed_then c.in_ok-write_number.ensures c.in_ok-write_state.ensures
