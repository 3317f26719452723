use Rattle.udfs_lattice.proofs.PacketStates.{IsPacketTable-packet}
use Rattle.udfs_lattice.proofs.PacketEntries.{entries_of-packet, places-packet}
use Rattle.udfs_lattice.proofs.packet.Packet.entries.Goals as goal

pub returns-clause-entries : goal.returns-clause-entries
returns-clause-entries c = entries_of-packet c.args.self.now (IsPacketTable-packet c.self.inside.known c.self.inside.conflict _ c.args.self.now c.self.invariant c.self.view_is)

pub returns-clause-places : goal.returns-clause-places
returns-clause-places c = places-packet c.args.self.now
