use Rattle.std.proofs.Common.{arith}
use Rattle.udfs_lattice.proofs.PacketStates.{IsMaskOf-conflict}
use Rattle.udfs_lattice.proofs.packet.Packet.conflict_mask.Goals as goal

pub returns : goal.returns
returns c = IsMaskOf-conflict c.self.inside.known c.self.inside.conflict _ c.args.self.now (omega arith) c.self.invariant c.self.view_is
