use Rattle.std.proofs.Common.{replicate}
use Rattle.udfs_salvage.proofs.Pieces.{Taken}
use Rattle.udfs_salvage.proofs.body_bytes.push_same.Given as goal

-- as many bytes are left as are to be written
abbrev pub invariant-pieces : goal.invariant-pieces
invariant-pieces g l =
    let W = g.W.Sink in
    Taken (W.stream l.fn.sink) (W.stream l.sink) l.fn.out l.out (replicate l.count l.byte) (replicate l.left l.byte)

abbrev pub decreases-pieces : goal.decreases-pieces
decreases-pieces g l = l.left
