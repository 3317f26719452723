use Rattle.std.proofs.Common.{◌≤◌, ◌+◌, ◌∙◌, sym, subst, arith}
use Rattle.udfs_lattice.specs.States.{fact_now}
use Rattle.udfs_lattice.specs.Packets.{IsPacketTable, box_values}
use Rattle.udfs_lattice.proofs.PacketStates.{IsPacketTable-packet}
use Rattle.udfs_lattice.proofs.PacketJoin.{IsJoinedBelow, joined_none, joined_more, joined_skip, joined_all, unknown_place, on_err, refused_above, refused_below, refused_again}
use Rattle.udfs_lattice.proofs.packet.PacketJoin.join.Goals as goal
use Rattle.udfs_lattice.proofs.packet.PacketJoin.join.Goals.{then-is_set+in_ok-add, else-is_set}

pub loop-i-init : goal.loop-i-init
loop-i-init c = subst (λ t. IsJoinedBelow c.args.self.now c.args.other.now t 0) (sym c.reserve.ensures) (joined_none c.args.self.now c.args.other.now (IsPacketTable-packet c.self.inside.known c.self.inside.conflict (box_values c.self.inside.blocks.items) c.args.self.now c.self.invariant c.self.view_is))

pub returns-in_err-add-clause-above_old : goal.returns-in_err-add-clause-above_old
returns-in_err-add-clause-above_old c = on_err c.from_residual-in_err-add.result (refused_above c.args.self.now c.args.other.now c.loop-i.self c.add.new.self c.loop-i.i c.loop-i.invariant c.in_err-add.ensures.err)

pub returns-in_err-add-clause-below_join : goal.returns-in_err-add-clause-below_join
returns-in_err-add-clause-below_join c = on_err c.from_residual-in_err-add.result (refused_below c.args.self.now c.args.other.now c.loop-i.self c.add.new.self c.loop-i.i c.loop-i.invariant c.in_err-add.ensures.err)

pub returns-in_err-add-clause-again : goal.returns-in_err-add-clause-again
returns-in_err-add-clause-again c = on_err c.from_residual-in_err-add.result (refused_again c.args.self.now c.args.other.now c.loop-i.self c.add.new.self c.loop-i.i c.loop-i.invariant c.in_err-add.ensures.err)

pub returns-in_err-reserve-clause-below_join : goal.returns-in_err-reserve-clause-below_join
returns-in_err-reserve-clause-below_join c = on_err c.from_residual.result (refused_below c.args.self.now c.args.other.now c.args.self.now c.reserve.new.self 0 (joined_none c.args.self.now c.args.other.now (IsPacketTable-packet c.self.inside.known c.self.inside.conflict (box_values c.self.inside.blocks.items) c.args.self.now c.self.invariant c.self.view_is)) c.reserve.ensures)

pub loop-i-preserved : goal.loop-i-preserved
loop-i-preserved c = elim c.if-is_set.branch [
  | then-is_set+in_ok-add w ↦ subst (λ t. IsJoinedBelow c.args.self.now c.args.other.now t (c.loop-i.i + 1)) (sym w.self-is) (joined_more c.args.self.now c.args.other.now c.loop-i.self w.add.new.self c.loop-i.i (fact_now w.state.result) (IsPacketTable-packet c.other.inside.known c.other.inside.conflict (box_values c.other.inside.blocks.items) c.args.other.now c.other.invariant c.other.view_is) c.loop-i.invariant w.state.ensures.state w.in_ok-add.ensures.ok)
  | else-is_set w ↦ subst (λ t. IsJoinedBelow c.args.self.now c.args.other.now t (c.loop-i.i + 1)) (sym w.self-is) (joined_skip c.args.self.now c.args.other.now c.loop-i.self c.loop-i.i c.loop-i.invariant (unknown_place c.other.inside.known c.other.inside.conflict (box_values c.other.inside.blocks.items) c.args.other.now c.loop-i.i c.other.view_is c.loop-i-test.true (sym c.is_set.ensures ∙ w.if-is_set.false)))
]

pub returns-clause-ok : goal.returns-clause-ok
returns-clause-ok c =
    let end : 32 ≤ c.loop-i.i = omega (arith, c.loop-i-test.false) in
    joined_all c.other.inside.known c.other.inside.conflict (box_values c.other.inside.blocks.items) c.args.self.now c.args.other.now c.loop-i.self c.loop-i.i c.other.view_is end c.loop-i.invariant

pub returns-in_err-reserve-clause-packet : goal.returns-in_err-reserve-clause-packet
returns-in_err-reserve-clause-packet c = subst IsPacketTable (sym c.reserve.ensures) (IsPacketTable-packet c.self.inside.known c.self.inside.conflict (box_values c.self.inside.blocks.items) c.args.self.now c.self.invariant c.self.view_is)

pub returns-in_err-add-clause-packet : goal.returns-in_err-add-clause-packet
returns-in_err-add-clause-packet c = subst IsPacketTable (sym c.in_err-add.ensures.err) c.loop-i.invariant.packet

pub returns-clause-packet : goal.returns-clause-packet
returns-clause-packet c = c.loop-i.invariant.packet
