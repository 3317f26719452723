use Rattle.std.proofs.Common.{◌≡◌, ◌≤◌, ◌<◌, ◌+◌, ◌-◌, ℕ}
use Rattle.udfs_index.specs.Slots.{slot_in}
use Rattle.udfs_lattice.specs.declared.facts.Fact.TheVariants.{Unknown}
use Rattle.udfs_index.proofs.packet.Packet.unknown_from.Given as goal

abbrev pub invariant-slots : goal.invariant-slots
invariant-slots l = record {
  most : l.i + l.count ≤ 32;
  unknown : (j : ℕ) → j < l.count → slot_in l.self (l.i + j) ≡ Unknown;
}

abbrev pub decreases-slots : goal.decreases-slots
decreases-slots l = 32 - l.count
