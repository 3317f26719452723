use Rattle.std.proofs.Common.{take}
use Rattle.udfs_salvage.specs.NodeTexts.{unnamed_texts}
use Rattle.udfs_reading.specs.Puts.{Puts}
use Rattle.udfs_salvage.proofs.node_printing.put_all_unnamed.Given as goal

-- what is put so far
abbrev pub invariant-loop-entry : goal.invariant-loop-entry
invariant-loop-entry g l =
    let W = g.W.Sink in
    Puts (W.stream l.fn.sink) (W.stream l.sink) l.fn.out l.out
    (unnamed_texts l.two (take l.entry-index l.entries))
