use Rattle.udfs_lawfulness.proofs.Twice.{AreFirstApart}
use Rattle.udfs_lawfulness.proofs.names.twice_in_pairs.Given as goal

-- no two of the nodes so far have one path
abbrev pub invariant-loop-at : goal.invariant-loop-at
invariant-loop-at l = AreFirstApart l.nodes l.at
