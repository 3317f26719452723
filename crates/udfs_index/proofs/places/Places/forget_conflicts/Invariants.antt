use Rattle.udfs_index.proofs.SlotLemmas.{SettledBelow}
use Rattle.udfs_index.proofs.places.Places.forget_conflicts.Given as goal

abbrev pub invariant-loop-number : goal.invariant-loop-number
invariant-loop-number l = SettledBelow l.fn.self.packets.items l.number l.self.packets.items
