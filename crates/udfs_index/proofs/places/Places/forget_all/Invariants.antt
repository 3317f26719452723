-- What is left without the blocks that are still to come is what was there without all of them.
use Rattle.std.proofs.Common.{List, drop}
use Rattle.udfs_index.specs.declared.packet.Packet.{Packet}
use Rattle.udfs_index.specs.Slots.{AreSlotsForgotten}
use Rattle.udfs_index.proofs.places.Places.forget_all.Given as goal

abbrev pub invariant-loop-n : goal.invariant-loop-n
invariant-loop-n l = (v : List Packet) → AreSlotsForgotten l.self.packets.items (drop l.n-index l.blocks) v → AreSlotsForgotten l.fn.self.packets.items l.blocks v
