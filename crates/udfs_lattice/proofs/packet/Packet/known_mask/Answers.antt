use Rattle.std.proofs.Common.{arith}
use Rattle.udfs_lattice.proofs.PacketStates.{IsMaskOf-known}
use Rattle.udfs_lattice.proofs.packet.Packet.known_mask.Goals as goal

pub returns : goal.returns
returns c = IsMaskOf-known c.self.inside.known c.self.inside.conflict _ c.args.self.now (omega arith) c.self.view_is
