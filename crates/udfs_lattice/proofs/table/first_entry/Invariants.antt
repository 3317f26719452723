use Rattle.std.specs.Prelude.{◌≡◌, ◌<◌, ℕ, All}
use Rattle.udfs_lattice.specs.Tables.{Table}
use Rattle.udfs_lattice.specs.PacketTables.{entries_of_packets}
use Rattle.udfs_lattice.proofs.table.first_entry.Given as goal

abbrev pub invariant-loop-number : goal.invariant-loop-number
invariant-loop-number l = (entries_of_packets l.fn.packets ≡ entries_of_packets l.packets) × All (λ (p : ℕ × Table). p.0 < 131072) l.packets
