use Rattle.std.proofs.Common.{take}
use Rattle.udfs_salvage.specs.NodeTexts.{names_text}
use Rattle.udfs_reading.specs.Puts.{Puts}
use Rattle.udfs_salvage.proofs.node_lines.put_names.Given as goal

-- what is put so far
abbrev pub invariant-loop-index : goal.invariant-loop-index
invariant-loop-index g l =
    let W = g.W.Sink in
    Puts (W.stream l.fn.sink) (W.stream l.sink) l.fn.out l.out
    (names_text (take l.index l.path))
