use Rattle.std.proofs.Common.{arith}
use Rattle.udfs_lattice.proofs.PacketCounts.{known_ones}
use Rattle.udfs_lattice.proofs.packet.Packet.known.Goals as goal

pub returns : goal.returns
returns c = known_ones c.self.inside.known c.self.inside.conflict _ c.args.self.now (omega arith) c.self.view_is
