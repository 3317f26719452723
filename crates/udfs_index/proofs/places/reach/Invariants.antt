-- The packets say what they said.
use Rattle.std.proofs.Common.{◌+◌, ◌-◌, length}
use Rattle.udfs_index.specs.Slots.{AreSlotsSame}
use Rattle.udfs_index.proofs.places.reach.Given as goal

abbrev pub invariant-loop-packets : goal.invariant-loop-packets
invariant-loop-packets l = record { same : AreSlotsSame l.initial.packets.items l.packets.items }

abbrev pub decreases-loop-packets : goal.decreases-loop-packets
decreases-loop-packets l = l.number + 1 - length l.packets.items
