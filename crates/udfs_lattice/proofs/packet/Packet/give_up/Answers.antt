use Rattle.std.proofs.Common.{arith}
use Rattle.udfs_lattice.proofs.PacketStates.{boxed_below}
use Rattle.udfs_lattice.proofs.PacketWrites.{gives_up, boxes_left, known_set}
use Rattle.udfs_lattice.proofs.packet.Packet.give_up.Goals as goal

pub remove-requires : goal.remove-requires
remove-requires c =
    let sized = c.self.inside.blocks.ok.0 in
    let below = boxed_below c.self.inside.known c.self.inside.conflict c.self.inside.blocks.items c.args.i c.self.invariant c.requires.place (known_set c.self.inside.known c.self.inside.conflict _ c.args.self.now c.args.i c.self.view_is c.requires.place c.requires.known) in
    let at = c.rank_of-at.ensures in
    omega (arith, sized, below, at)

pub invariant_of-self : goal.invariant_of-self
invariant_of-self c = (gives_up c.self.inside.known c.self.inside.conflict _ _ c.args.self.now c.args.i c.rank_of-at.result c.self.invariant c.self.view_is c.requires.place c.requires.known c.rank_of-at.ensures (boxes_left c.self.inside.blocks.items _ c.rank_of-at.result c.remove.ensures.items)).packet

pub returns : goal.returns
returns c = (gives_up c.self.inside.known c.self.inside.conflict _ _ c.args.self.now c.args.i c.rank_of-at.result c.self.invariant c.self.view_is c.requires.place c.requires.known c.rank_of-at.ensures (boxes_left c.self.inside.blocks.items _ c.rank_of-at.result c.remove.ensures.items)).changed
