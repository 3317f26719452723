use Rattle.std.proofs.Common.{◌∙◌, sym, arith}
use Rattle.udfs_lattice.proofs.PacketStates.{boxed_below, stored_read, state_known, state_conflict, state_unknown, IsPacketTable-packet}
use Rattle.udfs_lattice.proofs.packet.Packet.state.Goals as goal

pub index-requires : goal.index-requires
index-requires c =
    let sized = c.self.inside.blocks.ok.0 in
    let below = boxed_below c.self.inside.known c.self.inside.conflict c.self.inside.blocks.items c.args.i c.self.invariant c.requires (sym c.is_set.ensures ∙ c.if-is_set.true) in
    let at = c.rank_of-at.ensures in
    omega (arith, sized, below, at)

pub returns-then-is_set-clause-state : goal.returns-then-is_set-clause-state
returns-then-is_set-clause-state c =
    state_known c.self.inside.known c.self.inside.conflict _ c.args.self.now c.args.i _ c.self.view_is c.requires (sym c.is_set.ensures ∙ c.if-is_set.true)
    (stored_read c.self.inside.blocks.items c.rank_of-at.result _ _ c.rank_of-at.ensures (boxed_below c.self.inside.known c.self.inside.conflict c.self.inside.blocks.items c.args.i c.self.invariant c.requires (sym c.is_set.ensures ∙ c.if-is_set.true)) c.index.ensures ∙ sym c.deref.ensures)

pub returns-then-is_set-clause-packet : goal.returns-then-is_set-clause-packet
returns-then-is_set-clause-packet c = IsPacketTable-packet c.self.inside.known c.self.inside.conflict _ c.args.self.now c.self.invariant c.self.view_is

pub returns-then-is_set-2-clause-state : goal.returns-then-is_set-2-clause-state
returns-then-is_set-2-clause-state c = state_conflict c.self.inside.known c.self.inside.conflict _ c.args.self.now c.args.i c.self.view_is c.requires (sym c.is_set.ensures ∙ c.if-is_set.false) (sym c.is_set-2.ensures ∙ c.if-is_set-2.true)

pub returns-then-is_set-2-clause-packet : goal.returns-then-is_set-2-clause-packet
returns-then-is_set-2-clause-packet c = IsPacketTable-packet c.self.inside.known c.self.inside.conflict _ c.args.self.now c.self.invariant c.self.view_is

pub returns-clause-state : goal.returns-clause-state
returns-clause-state c = state_unknown c.self.inside.known c.self.inside.conflict _ c.args.self.now c.args.i c.self.view_is c.requires (sym c.is_set.ensures ∙ c.if-is_set.false) (sym c.is_set-2.ensures ∙ c.if-is_set-2.false)

pub returns-clause-packet : goal.returns-clause-packet
returns-clause-packet c = IsPacketTable-packet c.self.inside.known c.self.inside.conflict _ c.args.self.now c.self.invariant c.self.view_is
