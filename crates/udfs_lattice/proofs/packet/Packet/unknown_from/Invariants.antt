use Rattle.std.proofs.Common.{◌≡◌, ◌≤◌, ◌<◌, ◌+◌, ◌-◌, ℕ}
use Rattle.udfs_lattice.specs.Tables.{state_of}
use Rattle.udfs_lattice.specs.declared.facts.Fact.TheVariants.{Unknown}
use Rattle.udfs_lattice.proofs.packet.Packet.unknown_from.Given as goal

abbrev pub invariant-places : goal.invariant-places
invariant-places l = record {
  most : l.at + l.count ≤ 32;
  unknown : (j : ℕ) → j < l.count → state_of l.self (l.at + j) ≡ Unknown;
}

abbrev pub decreases-places : goal.decreases-places
decreases-places l = 32 - l.count
