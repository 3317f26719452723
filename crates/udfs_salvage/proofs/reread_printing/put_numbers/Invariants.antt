use Rattle.std.proofs.Common.{take}
use Rattle.udfs_reading.specs.Puts.{Puts}
use Rattle.udfs_salvage.specs.RereadTexts.{number_lines}
use Rattle.udfs_salvage.proofs.reread_printing.put_numbers.Given as goal

-- the lines of the blocks so far
abbrev pub invariant-loop-block : goal.invariant-loop-block
invariant-loop-block g l =
    let W = g.W.Sink in
    Puts (W.stream l.fn.sink) (W.stream l.sink) l.fn.out l.out
    (number_lines (take l.block-index l.blocks))
