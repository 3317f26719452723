use Rattle.std.proofs.Common.{◌∙◌, ap, sym, subst}
use Rattle.udfs_lattice.specs.PacketTables.{table_packets, IsSettledIn}
use Rattle.udfs_lattice.proofs.PacketTables.{found_is_packet, lent, unknown_packet}
use Rattle.udfs_lattice.proofs.Forgetting.{settled_packet, settled, nothing_settled}
use Rattle.udfs_lattice.proofs.table.BlockTable.settle.Goals as goal

pub returns : goal.returns
returns c =
    let packet = settled_packet c.in-Some.packet.now c.forget_conflicts.new.self ((found_is_packet c.self.inside.packets c.args.number c.in-Some.packet.now c.self.invariant.each c.in-Some.ensures.value).1) c.forget_conflicts.ensures in
    let there = lent c.self.inside.packets (c.get_mut.follows.lender c.forget_conflicts.new.self) c.args.number c.in-Some.packet.now c.forget_conflicts.new.self c.self.invariant c.in-Some.ensures.value (c.get_mut.follows.holds c.forget_conflicts.new.self) packet in
    settled c.self.inside.packets (c.get_mut.follows.lender c.forget_conflicts.new.self) c.args.number c.in-Some.packet.now c.forget_conflicts.new.self c.args.self.now there c.in-Some.ensures.value c.self.view_is c.forget_conflicts.ensures

pub returns-in_default : goal.returns-in_default
returns-in_default c =
    subst (λ t. IsSettledIn c.args.self.now c.args.number t) (sym (ap (λ b. table_packets b.entries) c.get_mut.follows.holds-at-none ∙ c.self.view_is))
    (nothing_settled c.args.self.now c.args.number (unknown_packet c.self.inside.packets c.args.self.now c.args.number c.self.invariant c.self.view_is c.in_default.ensures.value))
