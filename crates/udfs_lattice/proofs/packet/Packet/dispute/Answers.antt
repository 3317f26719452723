use Rattle.std.proofs.Common.{◌∙◌, sym, ap}
use Rattle.udfs_lattice.specs.States.{is_known}
use Rattle.udfs_lattice.specs.Tables.{state_of}
use Rattle.udfs_lattice.specs.Packets.{box_values}
use Rattle.udfs_lattice.specs.declared.facts.Fact.TheVariants.{Unknown}
use Rattle.udfs_lattice.proofs.PacketStates.{is_known-bit}
use Rattle.udfs_lattice.proofs.PacketWrites.{set_state}
use Rattle.udfs_lattice.proofs.packet.Packet.dispute.Goals as goal
use Rattle.udfs_lattice.proofs.packet.Packet.dispute.Goals.{then-is_set, else-is_set}

pub give_up-requires-clause-known : goal.give_up-requires-clause-known
give_up-requires-clause-known c = sym (is_known-bit c.self.inside.known c.self.inside.conflict (box_values c.self.inside.blocks.items) c.args.self.now c.args.i c.self.view_is c.requires) ∙ sym c.is_set.ensures ∙ c.if-is_set.true

pub mark-requires-clause-not_known : goal.mark-requires-clause-not_known
mark-requires-clause-not_known c = elim c.if-is_set.branch [
  | then-is_set w ↦ ap (λ t. is_known (state_of t c.args.i)) w.self-is ∙ ap is_known (set_state c.args.self.now w.give_up.new.self c.args.i Unknown w.give_up.ensures)
  | else-is_set w ↦ ap (λ t. is_known (state_of t c.args.i)) w.self-is ∙ sym (is_known-bit c.self.inside.known c.self.inside.conflict (box_values c.self.inside.blocks.items) c.args.self.now c.args.i c.self.view_is c.requires) ∙ sym c.is_set.ensures ∙ w.if-is_set.false
]
