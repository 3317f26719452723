use Rattle.udfs_tables.proofs.PastEnds.{UpTo}
use Rattle.udfs_tables.proofs.imaged.past_end.Given as goal

-- the entries so far lie up to the last block
abbrev pub invariant-loop-block : goal.invariant-loop-block
invariant-loop-block l = UpTo l.table l.last l.block-iterator
