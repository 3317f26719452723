use Rattle.udfs_lattice.proofs.Forgetting.{AreSettledBelow}
use Rattle.udfs_lattice.proofs.table.BlockTable.forget_conflicts.Given as goal

abbrev pub invariant-loop-number : goal.invariant-loop-number
invariant-loop-number l = AreSettledBelow l.fn.self l.number l.self
