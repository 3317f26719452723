use Rattle.std.proofs.Common.{take}
use Rattle.udfs_salvage.specs.NodeTexts.{hole_lines}
use Rattle.udfs_reading.specs.Puts.{Puts}
use Rattle.udfs_salvage.proofs.node_printing.put_holes.Given as goal

-- what is put so far
abbrev pub invariant-loop-hole : goal.invariant-loop-hole
invariant-loop-hole g l =
    let W = g.W.Sink in
    Puts (W.stream l.fn.sink) (W.stream l.sink) l.fn.out l.out
    (hole_lines (take l.hole-index l.holes))
