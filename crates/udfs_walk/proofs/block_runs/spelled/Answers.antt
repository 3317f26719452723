use Rattle.udfs_walk.specs.BlockRuns.{blocks_of}
use Rattle.udfs_walk.proofs.BlockOrder.{spelled_on, spelled_out}
use Rattle.udfs_walk.proofs.block_runs.spelled.Goals as goal

pub loop-run-preserved : goal.loop-run-preserved
loop-run-preserved c = spelled_on c.args.runs.now c.loop-run.run-index _ c.loop-run.numbers.items c.push_blocks.new.numbers.items (blocks_of c.args.runs.now) c.loop-run-test.true c.in_ok-push_blocks.ensures c.loop-run.invariant

pub returns : goal.returns
returns c = spelled_out c.args.runs.now c.loop-run.run-index c.loop-run.numbers.items (blocks_of c.args.runs.now) c.loop-run-test.false c.loop-run.invariant
