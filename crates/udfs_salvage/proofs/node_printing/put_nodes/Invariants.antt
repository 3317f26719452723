use Rattle.std.proofs.Common.{take}
use Rattle.udfs_salvage.specs.NodeTexts.{nodes_text}
use Rattle.udfs_reading.specs.Puts.{Puts}
use Rattle.udfs_salvage.proofs.node_printing.put_nodes.Given as goal

-- what is put so far
abbrev pub invariant-loop-index : goal.invariant-loop-index
invariant-loop-index g l =
    let W = g.W.Sink in
    Puts (W.stream l.fn.sink) (W.stream l.sink) l.fn.out l.out
    (nodes_text 0 (take l.index l.nodes))
