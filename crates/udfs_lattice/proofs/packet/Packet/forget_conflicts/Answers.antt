use Rattle.udfs_lattice.specs.Packets.{box_values}
use Rattle.udfs_lattice.proofs.Forgetting.{clears, IsPacket-clears}
use Rattle.udfs_lattice.proofs.packet.Packet.forget_conflicts.Goals as goal

pub invariant_of-self : goal.invariant_of-self
invariant_of-self c = IsPacket-clears c.self.inside.known c.self.inside.conflict (box_values c.self.inside.blocks.items) c.self.invariant

pub returns : goal.returns
returns c = clears c.self.inside.known c.self.inside.conflict (box_values c.self.inside.blocks.items) c.args.self.now c.self.view_is
