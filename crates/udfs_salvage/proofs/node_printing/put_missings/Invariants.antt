use Rattle.std.proofs.Common.{take}
use Rattle.udfs_salvage.specs.NodeTexts.{missing_lines}
use Rattle.udfs_reading.specs.Puts.{Puts}
use Rattle.udfs_salvage.proofs.node_printing.put_missings.Given as goal

-- what is put so far
abbrev pub invariant-loop-block : goal.invariant-loop-block
invariant-loop-block g l =
    let W = g.W.Sink in
    Puts (W.stream l.fn.sink) (W.stream l.sink) l.fn.out l.out
    (missing_lines (take l.block-index l.blocks))
