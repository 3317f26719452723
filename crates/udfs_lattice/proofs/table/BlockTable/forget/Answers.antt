use Rattle.std.proofs.Common.{◌/◌, ◌%◌, ◌∙◌, ap, refl}
use Rattle.udfs_lattice.specs.Tables.{state_of}
use Rattle.udfs_lattice.specs.PacketTables.{table_packets}
use Rattle.udfs_lattice.proofs.PacketTables.{found_is_packet, lent, forgotten_packet, forgotten, nothing_forgotten, unknown_packet}
use Rattle.udfs_lattice.proofs.table.BlockTable.forget.Goals as goal

pub returns : goal.returns
returns c =
    let packet = forgotten_packet c.in-Some.packet.now c.forget.new.self (c.args.n % 32) ((found_is_packet c.self.inside.packets (c.args.n / 32) c.in-Some.packet.now c.self.invariant.each c.in-Some.ensures.value).1) c.forget.ensures in
    let there = lent c.self.inside.packets (c.get_mut.follows.lender c.forget.new.self) (c.args.n / 32) c.in-Some.packet.now c.forget.new.self c.self.invariant c.in-Some.ensures.value (c.get_mut.follows.holds c.forget.new.self) packet in
    forgotten c.self.inside.packets (c.get_mut.follows.lender c.forget.new.self) c.args.n c.in-Some.packet.now c.forget.new.self c.args.self.now there c.in-Some.ensures.value c.self.view_is c.forget.ensures

pub returns-in_default : goal.returns-in_default
returns-in_default c = λ q.
    ap (λ b. state_of (table_packets b.entries) q) c.get_mut.follows.holds-at-none ∙ ap (λ t. state_of t q) c.self.view_is
    ∙ nothing_forgotten c.args.self.now c.args.n (unknown_packet c.self.inside.packets c.args.self.now (c.args.n / 32) c.self.invariant c.self.view_is c.in_default.ensures.value c.args.n refl) q
