use Rattle.std.proofs.Common.{ap}
use Rattle.udfs_lattice.specs.Packets.{box_values}
use Rattle.udfs_lattice.proofs.PacketStates.{IsPacket-none, packet-none}
use Rattle.udfs_lattice.proofs.packet.Packet.new.Goals as goal

pub invariant_of-result : goal.invariant_of-result
invariant_of-result c = IsPacket-none (box_values c.new.result.items) (ap box_values c.new.ensures.items)

pub returns : goal.returns
returns c = packet-none _
