use Rattle.std.proofs.lemmas.Result.{err_from_is_err_and}
use Rattle.udfs_reading.specs.Format.{number}
use Rattle.udfs_reading.proofs.WritingLemmas.{passed_then, failed_then, failed_more}
use Rattle.udfs_index.proofs.packing.put_masks.Goals as goal

pub returns-in_err-write_number : goal.returns-in_err-write_number
returns-in_err-write_number g c =
    let p = err_from_is_err_and c.from_residual.result c.from_residual.ensures.1 in
    rw p.1 (failed_more _ c.in_err-write_number.ensures)

pub returns-in_err-write_number-2 : goal.returns-in_err-write_number-2
returns-in_err-write_number-2 g c =
    let p = err_from_is_err_and c.from_residual-in_err-write_number-2.result c.from_residual-in_err-write_number-2.ensures.1 in
    rw p.1 (failed_then c.in_ok-write_number.ensures (failed_more (number c.args.conflict) c.in_err-write_number-2.ensures))

pub returns-in_err-write_number-3 : goal.returns-in_err-write_number-3
returns-in_err-write_number-3 g c =
    let p = err_from_is_err_and c.from_residual-in_err-write_number-3.result c.from_residual-in_err-write_number-3.ensures.1 in
    rw p.1 (failed_then c.in_ok-write_number.ensures (failed_then c.in_ok-write_number-2.ensures c.in_err-write_number-3.ensures))

pub returns : goal.returns
returns g c = passed_then c.in_ok-write_number.ensures (passed_then c.in_ok-write_number-2.ensures c.in_ok-write_number-3.ensures)
