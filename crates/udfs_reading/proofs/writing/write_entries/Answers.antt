use Rattle.std.proofs.Common.{sym, ◌∙◌}
use Rattle.std.proofs.lemmas.Result.{err_from_is_err_and}
use Rattle.udfs_lattice.specs.States.{fact_now}
use Rattle.udfs_lattice.specs.Tables.{entries_of}
use Rattle.udfs_reading.specs.TableFile.{table_magic}
use Rattle.udfs_reading.proofs.WritingLemmas.{failed_header, written_none, written_more, written_fails, written_all}
use Rattle.udfs_reading.proofs.writing.write_entries.Goals as goal

pub returns-in_err-write_header : goal.returns-in_err-write_header
unfolding table_magic
returns-in_err-write_header g c =
    let p = err_from_is_err_and c.from_residual.result c.from_residual.ensures.1 in
    rw p.1 (failed_header (entries_of c.args.table.now) (rw (sym c.count_entries-count.ensures) c.in_err-write_header.ensures))

pub loop-block-init : goal.loop-block-init
loop-block-init g c =
    written_none (g.W.Sink.stream c.write_header.new.sink) c.write_header.new.out (entries_of c.args.table.now) c.into_iter-block-iterator.result
    (c.into_iter-block-iterator.ensures.into_iter_gives ∙ c.entries-block-items.ensures.entries)

pub loop-block-preserved : goal.loop-block-preserved
loop-block-preserved g c =
    written_more (c.in-Some.block, fact_now c.in-Some.fact) c.loop-block.invariant c.in-Some.ensures.steps c.in_ok-write_entry.ensures

pub returns-in_err-write_entry : goal.returns-in_err-write_entry
unfolding table_magic
returns-in_err-write_entry g c =
    let p = err_from_is_err_and c.from_residual-in_err-write_entry.result c.from_residual-in_err-write_entry.ensures.1 in
    rw p.1 (written_fails (c.in-Some.block, fact_now c.in-Some.fact) (rw (sym c.count_entries-count.ensures) c.in_ok-write_header.ensures) c.loop-block.invariant c.in-Some.ensures.steps c.in_err-write_entry.ensures)

pub returns : goal.returns
unfolding table_magic
returns g c =
    written_all (rw (sym c.count_entries-count.ensures) c.in_ok-write_header.ensures) c.loop-block.invariant c.in-None.ensures.steps.0
