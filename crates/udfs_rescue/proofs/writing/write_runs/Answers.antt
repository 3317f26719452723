use Rattle.std.proofs.lemmas.Result.{err_from_is_err_and}
use Rattle.std.proofs.Common.{arith}
use Rattle.udfs_rescue.proofs.MapText.{behind_first, behind_more, behind_fails, behind_all, behind_last}
use Rattle.udfs_rescue.proofs.writing.write_runs.Goals as goal

pub loop-block-init : goal.loop-block-init
loop-block-init g c = rw c.status.ensures (behind_first (g.W.Sink.stream c.args.sink.now) c.args.out.now (g.T.Statuses.statuses c.args.of.now) c.args.last)

pub returns-in_err-take_block : goal.returns-in_err-take_block
returns-in_err-take_block g c =
    let p = err_from_is_err_and c.from_residual.result c.from_residual.ensures.1 in
    rw p.1 (behind_fails c.status-in-loop-block.result c.status-in-loop-block.ensures c.loop-block.invariant c.loop-block-test.true c.in_err-take_block.ensures.err)

pub loop-block-preserved : goal.loop-block-preserved
loop-block-preserved g c =
    behind_more c.status-in-loop-block.result c.status-in-loop-block.ensures c.loop-block.invariant c.loop-block-test.true c.in_ok-take_block.ensures.ok c.in_ok-take_block.ensures.size

pub returns-in_err-write_run : goal.returns-in_err-write_run
returns-in_err-write_run g c =
    let p = err_from_is_err_and c.from_residual-in_err-write_run.result c.from_residual-in_err-write_run.ensures.1 in
    rw p.1 (behind_last c.loop-block.invariant (omega (arith, c.loop-block-test.false)) c.in_err-write_run.ensures)

pub returns : goal.returns
returns g c = behind_all c.loop-block.invariant (omega (arith, c.loop-block-test.false)) c.in_ok-write_run.ensures
