use Rattle.std.proofs.Common.{[], ◌∷◌, map, sym, subst, ◌∙◌}
use Rattle.std.specs.Map.Iter.{deref_pair}
use Rattle.std.specs.Cmp.{nat_cmp_total}
use Rattle.std.proofs.lemmas.List.{map-append}
use Rattle.std.proofs.lemmas.Map.Iter.{btree_map_turn, iter_end}
use Rattle.udfs_lattice.specs.PacketTables.{one_packet}
use Rattle.udfs_lattice.proofs.PacketJoin.{on_err}
use Rattle.udfs_lattice.proofs.PacketTables.{found_is_packet, one_below}
use Rattle.udfs_lattice.proofs.Joining.{IsJoining, joining_none, joining_more, joining_all, refused_below, refused_again}
use Rattle.udfs_lattice.proofs.table.BlockTableJoin.join.Goals as goal

pub loop-number-init : goal.loop-number-init
loop-number-init c = joining_none c.args.self.now c.args.other.now

pub join_packet-requires-clause-number : goal.join_packet-requires-clause-number
join_packet-requires-clause-number c =
    let turn = btree_map_turn deref_pair c.loop-number.yielded c.into_iter-number-iterator.result c.loop-number.number-iterator c.next.new.self c.next.result (c.in-Some.number, c.in-Some.packet) c.loop-number.yielded_by c.in-Some.is c.next.ensures.steps
    nat_cmp_total c.other.inside.packets (c.into_iter-number-iterator.ensures.into_iter_gives ∙ c.iter-number-items.ensures.rest) c.iter-number-items.ensures.ordered in
    (found_is_packet c.other.inside.packets c.in-Some.number.now c.in-Some.packet.now c.other.invariant.each (sym turn.1)).0

pub join_packet-requires-clause-packet : goal.join_packet-requires-clause-packet
join_packet-requires-clause-packet c =
    let turn = btree_map_turn deref_pair c.loop-number.yielded c.into_iter-number-iterator.result c.loop-number.number-iterator c.next.new.self c.next.result (c.in-Some.number, c.in-Some.packet) c.loop-number.yielded_by c.in-Some.is c.next.ensures.steps
    nat_cmp_total c.other.inside.packets (c.into_iter-number-iterator.ensures.into_iter_gives ∙ c.iter-number-items.ensures.rest) c.iter-number-items.ensures.ordered in
    (found_is_packet c.other.inside.packets c.in-Some.number.now c.in-Some.packet.now c.other.invariant.each (sym turn.1)).1

pub loop-number-preserved : goal.loop-number-preserved
loop-number-preserved c =
    let turn = btree_map_turn deref_pair c.loop-number.yielded c.into_iter-number-iterator.result c.loop-number.number-iterator c.next.new.self c.next.result (c.in-Some.number, c.in-Some.packet) c.loop-number.yielded_by c.in-Some.is c.next.ensures.steps
    nat_cmp_total c.other.inside.packets (c.into_iter-number-iterator.ensures.into_iter_gives ∙ c.iter-number-items.ensures.rest) c.iter-number-items.ensures.ordered in
    subst (IsJoining c.args.self.now c.args.other.now c.join_packet.new.self) (sym (map-append deref_pair c.loop-number.yielded ((c.in-Some.number, c.in-Some.packet) ∷ [])))
    (joining_more c.args.self.now c.args.other.now c.loop-number.self c.join_packet.new.self (map deref_pair c.loop-number.yielded) c.in-Some.number.now c.in-Some.packet.now
    c.loop-number.invariant
    ((found_is_packet c.other.inside.packets c.in-Some.number.now c.in-Some.packet.now c.other.invariant.each (sym turn.1)).0)
    (one_below c.other.inside.packets c.in-Some.number.now c.in-Some.packet.now c.args.other.now c.other.invariant c.other.view_is (sym turn.1))
    c.in_ok-join_packet.ensures.ok)

pub returns-in_err-join_packet-clause-below_join : goal.returns-in_err-join_packet-clause-below_join
returns-in_err-join_packet-clause-below_join c =
    let turn = btree_map_turn deref_pair c.loop-number.yielded c.into_iter-number-iterator.result c.loop-number.number-iterator c.next.new.self c.next.result (c.in-Some.number, c.in-Some.packet) c.loop-number.yielded_by c.in-Some.is c.next.ensures.steps
    nat_cmp_total c.other.inside.packets (c.into_iter-number-iterator.ensures.into_iter_gives ∙ c.iter-number-items.ensures.rest) c.iter-number-items.ensures.ordered in
    on_err c.from_residual.result (refused_below c.args.self.now c.args.other.now c.loop-number.self c.join_packet.new.self (one_packet c.in-Some.number.now c.in-Some.packet.now) (map deref_pair c.loop-number.yielded) c.loop-number.invariant
    (one_below c.other.inside.packets c.in-Some.number.now c.in-Some.packet.now c.args.other.now c.other.invariant c.other.view_is (sym turn.1))
    c.in_err-join_packet.ensures.below_join)

pub returns-in_err-join_packet-clause-again : goal.returns-in_err-join_packet-clause-again
returns-in_err-join_packet-clause-again c =
    let turn = btree_map_turn deref_pair c.loop-number.yielded c.into_iter-number-iterator.result c.loop-number.number-iterator c.next.new.self c.next.result (c.in-Some.number, c.in-Some.packet) c.loop-number.yielded_by c.in-Some.is c.next.ensures.steps
    nat_cmp_total c.other.inside.packets (c.into_iter-number-iterator.ensures.into_iter_gives ∙ c.iter-number-items.ensures.rest) c.iter-number-items.ensures.ordered in
    on_err c.from_residual.result (refused_again c.args.self.now c.args.other.now c.loop-number.self c.join_packet.new.self (one_packet c.in-Some.number.now c.in-Some.packet.now) (map deref_pair c.loop-number.yielded) c.loop-number.invariant
    (one_below c.other.inside.packets c.in-Some.number.now c.in-Some.packet.now c.args.other.now c.other.invariant c.other.view_is (sym turn.1))
    c.in_err-join_packet.ensures.above_old c.in_err-join_packet.ensures.below_join)

pub returns-clause-ok : goal.returns-clause-ok
returns-clause-ok c =
    let done = iter_end deref_pair c.other.inside.packets.entries c.loop-number.yielded c.into_iter-number-iterator.result c.loop-number.number-iterator c.next.new.self c.next.result (c.into_iter-number-iterator.ensures.into_iter_gives ∙ c.iter-number-items.ensures.rest) c.loop-number.yielded_by c.in-None.is c.next.ensures.steps in
    joining_all c.args.self.now c.args.other.now c.loop-number.self c.other.inside.packets c.other.invariant c.other.view_is
    (subst (IsJoining c.args.self.now c.args.other.now c.loop-number.self) done.0 c.loop-number.invariant)
