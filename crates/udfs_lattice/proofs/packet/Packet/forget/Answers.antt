use Rattle.std.proofs.Common.{◌∙◌, sym}
use Rattle.udfs_lattice.specs.Packets.{box_values}
use Rattle.udfs_lattice.proofs.PacketStates.{is_known-bit}
use Rattle.udfs_lattice.proofs.packet.Packet.forget.Goals as goal

pub give_up-requires-clause-known : goal.give_up-requires-clause-known
give_up-requires-clause-known c = sym (is_known-bit c.self.inside.known c.self.inside.conflict (box_values c.self.inside.blocks.items) c.args.self.now c.args.i c.self.view_is c.requires) ∙ sym c.is_set.ensures ∙ c.if-is_set.true

pub unmark-requires-clause-not_known : goal.unmark-requires-clause-not_known
unmark-requires-clause-not_known c = sym (is_known-bit c.self.inside.known c.self.inside.conflict (box_values c.self.inside.blocks.items) c.args.self.now c.args.i c.self.view_is c.requires) ∙ sym c.is_set.ensures ∙ c.if-is_set.false
