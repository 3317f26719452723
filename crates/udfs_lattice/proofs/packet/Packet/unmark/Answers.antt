use Rattle.udfs_lattice.proofs.PacketWrites.{unmarks}
use Rattle.udfs_lattice.proofs.packet.Packet.unmark.Goals as goal

pub invariant_of-self : goal.invariant_of-self
invariant_of-self c = (unmarks c.self.inside.known c.self.inside.conflict _ c.args.self.now c.args.i c.self.invariant c.self.view_is c.requires.place c.requires.not_known).packet

pub returns : goal.returns
returns c = (unmarks c.self.inside.known c.self.inside.conflict _ c.args.self.now c.args.i c.self.invariant c.self.view_is c.requires.place c.requires.not_known).changed
