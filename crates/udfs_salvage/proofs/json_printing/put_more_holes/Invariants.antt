use Rattle.std.proofs.Common.{take}
use Rattle.std.specs.String.{string_bytes}
use Rattle.udfs_reading.specs.Writing.{Passed}
use Rattle.udfs_salvage.specs.JsonNodes.{hole_data}
use Rattle.udfs_salvage.specs.JsonPieces.{more_values}
use Rattle.udfs_salvage.proofs.json_printing.put_more_holes.Given as goal

-- the values so far
abbrev pub invariant-loop-hole : goal.invariant-loop-hole
invariant-loop-hole g l =
    let W = g.W.Sink in
    Passed (W.stream l.fn.sink) (W.stream l.sink) (string_bytes l.fn.text) (string_bytes l.text)
    (more_values hole_data (take l.hole-index l.holes))
