use Rattle.udfs_salvage.proofs.PastEnds.{UpTo}
use Rattle.udfs_salvage.proofs.stores.past_end.Given as goal

-- the entries so far lie up to the last block
abbrev pub invariant-loop-block : goal.invariant-loop-block
invariant-loop-block l = UpTo l.table l.last l.block-iterator
