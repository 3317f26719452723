use Rattle.std.proofs.Common.{◌+◌}
use Rattle.std.proofs.lemmas.Result.{err_from_is_err_and}
use Rattle.udfs_rescue.specs.Writing.{run_lines, runs_of_blocks}
use Rattle.udfs_rescue.proofs.MapText.{taken, fails, fails_before}
use Rattle.udfs_rescue.proofs.writing.write_all_lines.Goals as goal

pub returns-in_err-write_heading : goal.returns-in_err-write_heading
returns-in_err-write_heading g c =
    let p = err_from_is_err_and c.from_residual.result c.from_residual.ensures.1 in
    rw p.1 (fails_before (run_lines (runs_of_blocks (g.T.Statuses.statuses c.args.of.now) 0 (c.args.last + 1))) c.in_err-write_heading.ensures)

pub returns-in_err-write_runs : goal.returns-in_err-write_runs
returns-in_err-write_runs g c =
    let p = err_from_is_err_and c.from_residual-in_err-write_runs.result c.from_residual-in_err-write_runs.ensures.1 in
    rw p.1 (fails c.in_ok-write_heading.ensures c.in_err-write_runs.ensures)

pub returns : goal.returns
returns g c = taken c.in_ok-write_heading.ensures c.in_ok-write_runs.ensures
