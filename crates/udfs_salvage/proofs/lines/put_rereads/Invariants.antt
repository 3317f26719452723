use Rattle.std.proofs.Common.{take}
use Rattle.udfs_salvage.specs.Texts.{reread_lines}
use Rattle.udfs_reading.specs.Puts.{Puts}
use Rattle.udfs_salvage.proofs.lines.put_rereads.Given as goal

-- what is put so far
abbrev pub invariant-loop-block : goal.invariant-loop-block
invariant-loop-block g l =
    let W = g.W.Sink in
    g.B.BlockStore.tells → Puts (W.stream l.fn.sink) (W.stream l.sink) l.fn.out l.out
    (reread_lines (g.B.BlockStore.states l.blocks) (take l.block-index l.numbers))
