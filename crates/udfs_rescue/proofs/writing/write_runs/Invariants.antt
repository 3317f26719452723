-- The runs before this one were written, and it goes up to the block.
use Rattle.udfs_rescue.proofs.MapText.{Behind}
use Rattle.udfs_rescue.proofs.writing.write_runs.Given as goal
use Rattle.std.proofs.Common.{◌+◌, ◌-◌}

abbrev pub invariant-loop-block : goal.invariant-loop-block
invariant-loop-block g l =
    let W = g.W.Sink in
    Behind (W.stream l.initial.sink) (W.stream l.sink) l.initial.out l.out l.run (g.T.Statuses.statuses l.of) l.block l.last

abbrev pub decreases-loop-block : goal.decreases-loop-block
decreases-loop-block g l = l.last + 1 - l.block
