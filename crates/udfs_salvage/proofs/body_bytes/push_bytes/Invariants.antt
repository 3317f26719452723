use Rattle.std.proofs.Common.{◌-◌, drop, length}
use Rattle.udfs_salvage.proofs.Pieces.{Taken}
use Rattle.udfs_salvage.proofs.body_bytes.push_bytes.Given as goal

-- the bytes from this place on are left
abbrev pub invariant-pieces : goal.invariant-pieces
invariant-pieces g l =
    let W = g.W.Sink in
    Taken (W.stream l.fn.sink) (W.stream l.sink) l.fn.out l.out l.bytes (drop l.at l.bytes)

abbrev pub decreases-pieces : goal.decreases-pieces
decreases-pieces g l = length l.bytes - l.at
