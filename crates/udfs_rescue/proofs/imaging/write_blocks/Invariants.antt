-- The blocks before this one were taken.
use Rattle.udfs_rescue.proofs.ImageText.{ImageSoFar}
use Rattle.udfs_rescue.proofs.imaging.write_blocks.Given as goal

abbrev pub invariant-loop-block : goal.invariant-loop-block
invariant-loop-block g l =
    let W = g.W.Sink in
    ImageSoFar (W.stream l.initial.sink) (W.stream l.sink) l.initial.out l.out l.table l.block l.last
