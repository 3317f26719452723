use Rattle.std.proofs.lemmas.Result.{err_from_is_err_and}
use Rattle.udfs_rescue.proofs.MapText.{wrote_held, wrote_all, failed_at_end}
use Rattle.udfs_rescue.proofs.imaging.write_image.Goals as goal

pub returns-in_err-write_blocks : goal.returns-in_err-write_blocks
returns-in_err-write_blocks g c =
    let p = err_from_is_err_and c.from_residual.result c.from_residual.ensures.1 in
    rw p.1 (wrote_held c.new-out.ensures c.in_err-write_blocks.ensures)

pub returns-in_err-flush : goal.returns-in_err-flush
returns-in_err-flush g c =
    let p = err_from_is_err_and c.from_residual-in_err-flush.result c.from_residual-in_err-flush.ensures.1 in
    rw p.1 (failed_at_end c.new-out.ensures c.in_ok-write_blocks.ensures c.in_err-flush.ensures.written)

pub returns : goal.returns
returns g c = wrote_all c.new-out.ensures c.in_ok-write_blocks.ensures c.in_ok-flush.ensures.written
