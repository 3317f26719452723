-- The blocks before `place` were taken.
use Rattle.std.specs.List.{flat_map}
use Rattle.udfs_reading.specs.PacketFile.{content, states_from}
use Rattle.udfs_reading.specs.Writing.{Passed}
use Rattle.udfs_reading.proofs.packing.write_blocks.Given as goal

abbrev pub invariant-loop-place : goal.invariant-loop-place
invariant-loop-place g l =
    let W = g.W.Sink in
    Passed (W.stream l.initial.sink) (W.stream l.sink) l.initial.out l.out (flat_map content (states_from l.table l.first l.place))
