use Rattle.std.proofs.Common.{take}
use Rattle.std.specs.String.{string_bytes}
use Rattle.udfs_reading.specs.Writing.{Passed}
use Rattle.udfs_salvage.specs.JsonReports.{reread_data}
use Rattle.udfs_salvage.specs.JsonPieces.{more_values}
use Rattle.udfs_salvage.proofs.json_printing.put_more_rereads.Given as goal

-- the values so far
abbrev pub invariant-loop-block : goal.invariant-loop-block
invariant-loop-block g l =
    let W = g.W.Sink in
    g.B.BlockStore.tells → Passed (W.stream l.fn.sink) (W.stream l.sink) (string_bytes l.fn.text) (string_bytes l.text)
    (more_values (reread_data (g.B.BlockStore.states l.blocks)) (take l.block-index l.numbers))
