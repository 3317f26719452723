use Rattle.std.proofs.Common.{ap, subst, arith, ◌+◌, ◌-◌, ◌≤◌, ◌<◌, ◌++◌}
use Rattle.std.specs.List.{range_with_len}
use Rattle.udfs_walk.specs.BlockRuns.{run_blocks}
use Rattle.udfs_walk.proofs.BlockOrder.{range_on, range_done}
use Rattle.udfs_walk.proofs.block_runs.push_blocks.Goals as goal

pub loop-n-init : goal.loop-n-init
loop-n-init c = ap (λ z. c.args.numbers.now.items ++ range_with_len z (c.args.run.last + 1 - z)) c.from-n.ensures

pub loop-n-preserved : goal.loop-n-preserved
loop-n-preserved c = range_on c.loop-n.numbers.items c.push.new.self.items (c.args.numbers.now.items ++ run_blocks c.args.run) c.loop-n.n _ c.args.run.last
    (subst (λ z. c.loop-n.n < z + 1) c.from-n-end.ensures c.loop-n-test.true) (omega arith) c.in_ok-push.ensures.items c.loop-n.invariant

pub returns : goal.returns
returns c = range_done c.loop-n.numbers.items (c.args.numbers.now.items ++ run_blocks c.args.run) c.loop-n.n c.args.run.last
    (subst (λ z. z + 1 ≤ c.loop-n.n) c.from-n-end.ensures c.loop-n-test.false) c.loop-n.invariant
