use Rattle.udfs_lattice.proofs.PacketJoin.{IsJoinedBelow}
use Rattle.udfs_lattice.proofs.packet.PacketJoin.join.Given as goal

abbrev pub invariant-loop-i : goal.invariant-loop-i
invariant-loop-i l = IsJoinedBelow l.fn.self l.other l.self l.i
