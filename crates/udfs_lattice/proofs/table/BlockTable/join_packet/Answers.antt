use Rattle.std.proofs.Common.{◌∙◌, ap}
use Rattle.std.proofs.lemmas.Result.{on_ok_weaker, on_err_weaker}
use Rattle.udfs_lattice.specs.Tables.{state_of}
use Rattle.udfs_lattice.specs.PacketTables.{table_packets}
use Rattle.udfs_lattice.proofs.PacketJoin.{on_err}
use Rattle.udfs_lattice.proofs.PacketTables.{lent, unknown_packet, packet_joined, packet_above, packet_below, new_joined, same_below}
use Rattle.udfs_lattice.proofs.table.BlockTable.join_packet.Goals as goal

pub insert-requires-clause-missing : goal.insert-requires-clause-missing
insert-requires-clause-missing c q e =
    ap (λ b. state_of (table_packets b.entries) q) c.get_mut.follows.holds-at-none
    ∙ ap (λ t. state_of t q) c.self.view_is
    ∙ unknown_packet c.self.inside.packets c.args.self.now c.args.number c.self.invariant c.self.view_is c.in-None.ensures.value q e

pub returns-in_err-join-in-None-clause-below_join : goal.returns-in_err-join-in-None-clause-below_join
returns-in_err-join-in-None-clause-below_join c = on_err c.from_residual.result (same_below _ c.args.self.now _ (ap (λ b. table_packets b.entries) c.get_mut.follows.holds-at-none ∙ c.self.view_is))

pub returns-in_err-insert-in-None-clause-below_join : goal.returns-in_err-insert-in-None-clause-below_join
returns-in_err-insert-in-None-clause-below_join c = on_err c.from_residual-in_err-insert-in-None.result (same_below c.insert.new.self c.args.self.now _ (c.in_err-insert-in-None.ensures.err ∙ ap (λ b. table_packets b.entries) c.get_mut.follows.holds-at-none ∙ c.self.view_is))

pub returns-in_ok-insert-in-None-clause-ok : goal.returns-in_ok-insert-in-None-clause-ok
returns-in_ok-insert-in-None-clause-ok c =
    new_joined c.args.number c.args.theirs.now c.new-packet.result c.join-in-None.new.self (table_packets c.get_mut.follows.lender-at-none.entries) c.args.self.now c.insert.new.self c.new-packet.ensures c.in_ok-join-in-None.ensures.ok
    (ap (λ b. table_packets b.entries) c.get_mut.follows.holds-at-none ∙ c.self.view_is) c.in_ok-insert-in-None.ensures.ok

pub returns-in-Some-clause-ok : goal.returns-in-Some-clause-ok
returns-in-Some-clause-ok c =
    let there = lent c.self.inside.packets (c.get_mut.follows.lender c.join.new.self) c.args.number c.in-Some.packet.now c.join.new.self c.self.invariant c.in-Some.ensures.value (c.get_mut.follows.holds c.join.new.self) c.join.ensures.packet in
    on_ok_weaker c.join.result (packet_joined c.self.inside.packets (c.get_mut.follows.lender c.join.new.self) c.args.number c.args.theirs.now c.in-Some.packet.now c.join.new.self c.args.self.now there c.in-Some.ensures.value c.self.view_is) c.join.ensures.ok

pub returns-in-Some-clause-above_old : goal.returns-in-Some-clause-above_old
returns-in-Some-clause-above_old c =
    let there = lent c.self.inside.packets (c.get_mut.follows.lender c.join.new.self) c.args.number c.in-Some.packet.now c.join.new.self c.self.invariant c.in-Some.ensures.value (c.get_mut.follows.holds c.join.new.self) c.join.ensures.packet in
    on_err_weaker c.join.result (packet_above c.self.inside.packets (c.get_mut.follows.lender c.join.new.self) c.args.number c.in-Some.packet.now c.join.new.self c.args.self.now there c.in-Some.ensures.value c.self.view_is) c.join.ensures.above_old

pub returns-in-Some-clause-below_join : goal.returns-in-Some-clause-below_join
returns-in-Some-clause-below_join c =
    let there = lent c.self.inside.packets (c.get_mut.follows.lender c.join.new.self) c.args.number c.in-Some.packet.now c.join.new.self c.self.invariant c.in-Some.ensures.value (c.get_mut.follows.holds c.join.new.self) c.join.ensures.packet in
    on_err_weaker c.join.result (packet_below c.self.inside.packets (c.get_mut.follows.lender c.join.new.self) c.args.number c.args.theirs.now c.in-Some.packet.now c.join.new.self c.args.self.now there c.in-Some.ensures.value c.self.view_is) c.join.ensures.below_join
