use Rattle.std.proofs.Common.{◌∙◌, ap, Err}
use Rattle.std.proofs.lemmas.Result.{err_from_is_err_and}
use Rattle.udfs_reading.proofs.WritingLemmas.{wrote_all, failed_last}
use Rattle.udfs_index.proofs.CopyLemmas.{copies_first}
use Rattle.udfs_index.proofs.imaging.write_image.Goals as goal

pub returns-in_err-write_blocks-clause-bytes : goal.returns-in_err-write_blocks-clause-bytes
returns-in_err-write_blocks-clause-bytes g c wholes t told shown =
    let p = err_from_is_err_and c.from_residual.result c.from_residual.ensures.1 in
    copies_first _ _ _ _ c.in_err-write_blocks.field-0.0 c.from_residual.result (p.1 ∙ ap (λ e. Err e) p.2) c.new-out.ensures (c.in_err-write_blocks.ensures.bytes wholes t told shown)

pub returns-in_err-flush-clause-bytes : goal.returns-in_err-flush-clause-bytes
returns-in_err-flush-clause-bytes g c wholes t told shown =
    let p = err_from_is_err_and c.from_residual-in_err-flush.result c.from_residual-in_err-flush.ensures.1 in
    rw (p.1, p.2) (failed_last c.new-out.ensures (c.in_ok-write_blocks.ensures.bytes wholes t told shown) c.in_err-flush.ensures.written)

pub returns-clause-bytes : goal.returns-clause-bytes
returns-clause-bytes g c wholes t told shown = wrote_all c.new-out.ensures (c.in_ok-write_blocks.ensures.bytes wholes t told shown) c.in_ok-flush.ensures.written

pub returns-in_err-write_blocks-clause-reads : goal.returns-in_err-write_blocks-clause-reads
returns-in_err-write_blocks-clause-reads g c wholes t is told never shown =
    let p = err_from_is_err_and c.from_residual.result c.from_residual.ensures.1 in
    rw (p.1, p.2) (c.in_err-write_blocks.ensures.reads wholes t is told never shown)
