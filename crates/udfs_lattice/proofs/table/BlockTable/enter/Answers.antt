use Rattle.std.proofs.Common.{◌<◌, ◌/◌, ◌%◌, ◌∙◌, sym, ap, subst, refl, arith}
use Rattle.std.proofs.lemmas.Result.{on_ok_weaker, on_err_weaker}
use Rattle.udfs_lattice.specs.States.{fact_now}
use Rattle.udfs_lattice.specs.Tables.{state_of, one_entry, join_tables}
use Rattle.udfs_lattice.specs.TableLaws.{join_tables-empty}
use Rattle.udfs_lattice.specs.Packets.{IsPacketTable}
use Rattle.udfs_lattice.specs.PacketTables.{table_packets}
use Rattle.udfs_lattice.proofs.PacketStates.{IsPacketTable-one}
use Rattle.udfs_lattice.proofs.PacketTables.{found_is_packet, added_packet, lent, IsPacketMap-lent, entered, not_entered, state_in_packet, unknown_packet, new_packet}
use Rattle.udfs_lattice.proofs.table.BlockTable.enter.Goals as goal

pub invariant_of-self : goal.invariant_of-self
invariant_of-self c =
    let small : c.args.n % 32 < 32 = omega arith in
    IsPacketMap-lent c.self.inside.packets (c.get_mut.follows.lender c.add.new.self) (c.args.n / 32) c.in-Some.packet.now c.add.new.self c.self.invariant c.in-Some.ensures.value (c.get_mut.follows.holds c.add.new.self)
    (added_packet c.add.result c.in-Some.packet.now c.add.new.self c.args.n (c.args.n % 32) (fact_now c.args.fact) ((found_is_packet c.self.inside.packets (c.args.n / 32) c.in-Some.packet.now c.self.invariant.each c.in-Some.ensures.value).1) small c.requires.block c.add.ensures.ok c.add.ensures.err)

pub returns-in-Some-clause-ok : goal.returns-in-Some-clause-ok
returns-in-Some-clause-ok c =
    let small : c.args.n % 32 < 32 = omega arith in
    let packet = added_packet c.add.result c.in-Some.packet.now c.add.new.self c.args.n (c.args.n % 32) (fact_now c.args.fact) ((found_is_packet c.self.inside.packets (c.args.n / 32) c.in-Some.packet.now c.self.invariant.each c.in-Some.ensures.value).1) small c.requires.block c.add.ensures.ok c.add.ensures.err in
    let there = lent c.self.inside.packets (c.get_mut.follows.lender c.add.new.self) (c.args.n / 32) c.in-Some.packet.now c.add.new.self c.self.invariant c.in-Some.ensures.value (c.get_mut.follows.holds c.add.new.self) packet in
    on_ok_weaker c.add.result (entered c.self.inside.packets (c.get_mut.follows.lender c.add.new.self) c.args.n (fact_now c.args.fact) c.in-Some.packet.now c.add.new.self c.args.self.now there c.in-Some.ensures.value c.requires.number c.self.view_is) c.add.ensures.ok

pub returns-in-Some-clause-err : goal.returns-in-Some-clause-err
returns-in-Some-clause-err c =
    let small : c.args.n % 32 < 32 = omega arith in
    let packet = added_packet c.add.result c.in-Some.packet.now c.add.new.self c.args.n (c.args.n % 32) (fact_now c.args.fact) ((found_is_packet c.self.inside.packets (c.args.n / 32) c.in-Some.packet.now c.self.invariant.each c.in-Some.ensures.value).1) small c.requires.block c.add.ensures.ok c.add.ensures.err in
    let there = lent c.self.inside.packets (c.get_mut.follows.lender c.add.new.self) (c.args.n / 32) c.in-Some.packet.now c.add.new.self c.self.invariant c.in-Some.ensures.value (c.get_mut.follows.holds c.add.new.self) packet in
    on_err_weaker c.add.result (not_entered c.self.inside.packets (c.get_mut.follows.lender c.add.new.self) (c.args.n / 32) c.in-Some.packet.now c.add.new.self c.args.self.now there c.in-Some.ensures.value c.self.view_is) c.add.ensures.err

pub returns-in-Some-clause-no_memory : goal.returns-in-Some-clause-no_memory
returns-in-Some-clause-no_memory c known =
    c.add.ensures.no_memory (λ none. known (state_in_packet c.self.inside.packets c.args.self.now c.args.n c.in-Some.packet.now c.self.invariant c.self.view_is c.in-Some.ensures.value ∙ none))

pub returns-in_err-add-in-None-clause-no_memory : goal.returns-in_err-add-in-None-clause-no_memory
returns-in_err-add-in-None-clause-no_memory c known = absurd (known (unknown_packet c.self.inside.packets c.args.self.now (c.args.n / 32) c.self.invariant c.self.view_is c.in-None.ensures.value c.args.n refl))

pub returns-in_ok-add-in-None-clause-no_memory : goal.returns-in_ok-add-in-None-clause-no_memory
returns-in_ok-add-in-None-clause-no_memory c known = absurd (known (unknown_packet c.self.inside.packets c.args.self.now (c.args.n / 32) c.self.invariant c.self.view_is c.in-None.ensures.value c.args.n refl))

pub insert-requires-clause-packet : goal.insert-requires-clause-packet
insert-requires-clause-packet c =
    let small : c.args.n % 32 < 32 = omega arith in
    subst IsPacketTable (sym (c.in_ok-add-in-None.ensures.ok ∙ ap (λ t. join_tables t (one_entry (c.args.n % 32) (fact_now c.args.fact))) c.new-packet.ensures ∙ join_tables-empty (one_entry (c.args.n % 32) (fact_now c.args.fact))))
    (IsPacketTable-one c.args.n (c.args.n % 32) (fact_now c.args.fact) small c.requires.block)

pub insert-requires-clause-missing : goal.insert-requires-clause-missing
insert-requires-clause-missing c q e =
    ap (λ b. state_of (table_packets b.entries) q) c.get_mut.follows.holds-at-none
    ∙ ap (λ t. state_of t q) c.self.view_is
    ∙ unknown_packet c.self.inside.packets c.args.self.now (c.args.n / 32) c.self.invariant c.self.view_is c.in-None.ensures.value q e

pub returns-in_ok-add-in-None-clause-ok : goal.returns-in_ok-add-in-None-clause-ok
returns-in_ok-add-in-None-clause-ok c =
    on_ok_weaker c.insert.result (new_packet c.args.n (fact_now c.args.fact) c.new-packet.result c.add-in-None.new.self (table_packets c.get_mut.follows.lender-at-none.entries) c.args.self.now c.insert.new.self c.requires.number c.new-packet.ensures c.in_ok-add-in-None.ensures.ok
    (ap (λ b. table_packets b.entries) c.get_mut.follows.holds-at-none ∙ c.self.view_is)) c.insert.ensures.ok
