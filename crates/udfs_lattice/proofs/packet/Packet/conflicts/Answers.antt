use Rattle.std.proofs.Common.{arith}
use Rattle.udfs_lattice.proofs.PacketCounts.{conflict_ones}
use Rattle.udfs_lattice.proofs.packet.Packet.conflicts.Goals as goal

pub returns : goal.returns
returns c = conflict_ones c.self.inside.known c.self.inside.conflict _ c.args.self.now (omega arith) c.self.invariant c.self.view_is
