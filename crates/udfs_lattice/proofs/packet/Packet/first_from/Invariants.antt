use Rattle.std.specs.Prelude.{◌≡◌}
use Rattle.udfs_lattice.specs.Packets.{entries_left}
use Rattle.udfs_lattice.proofs.packet.Packet.first_from.Given as goal

abbrev pub invariant-loop-i : goal.invariant-loop-i
invariant-loop-i l = entries_left l.self l.fn.at ≡ entries_left l.self l.i
