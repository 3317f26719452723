use Rattle.std.proofs.Common.{arith, ◌++◌, ◌+◌, ◌-◌}
use Rattle.std.specs.List.{range_with_len}
use Rattle.udfs_witnesses.proofs.Rising.{range_on}
use Rattle.udfs_witnesses.proofs.grouping.push_blocks.Goals as goal

pub loop-n-preserved : goal.loop-n-preserved
loop-n-preserved c = range_on c.loop-n.asked.items c.push.new.self.items (c.args.asked.now.items ++ range_with_len c.args.from (c.args.to + 1 - c.args.from)) c.loop-n.n _ c.args.to
    c.loop-n-test.true (omega arith) c.in_ok-push.ensures.items c.loop-n.invariant
