use Rattle.std.proofs.Common.{arith}
use Rattle.udfs_lattice.proofs.PacketWrites.{stores, boxed_fits, boxes_stored, IsBlock-from_array}
use Rattle.udfs_lattice.proofs.packet.Packet.store.Goals as goal

pub insert-requires : goal.insert-requires
insert-requires c =
    let sized = c.self.inside.blocks.ok.0 in
    let fits = boxed_fits c.self.inside.known c.self.inside.conflict c.args.i c.self.inside.blocks.items c.self.invariant c.requires.place in
    let at = c.rank_of-at.ensures in
    omega (arith, sized, fits, at)

pub invariant_of-self-2 : goal.invariant_of-self-2
invariant_of-self-2 c =
    let sound = IsBlock-from_array c.args.bytes.now c.told-bytes c.fits-bytes in
    let boxed = boxes_stored c.self.inside.blocks.items c.insert.new.self.items c.rank_of-at.result c.in_ok-block.block c.args.bytes.now c.in_ok-block.ensures.ok c.in_ok-insert.ensures.items in
    (stores c.self.inside.known c.self.inside.conflict _ _ c.args.self.now c.args.i c.rank_of-at.result c.args.bytes.now c.self.invariant c.self.view_is c.requires.place c.requires.unknown sound c.rank_of-at.ensures boxed).packet

pub returns-clause-ok : goal.returns-clause-ok
returns-clause-ok c =
    let sound = IsBlock-from_array c.args.bytes.now c.told-bytes c.fits-bytes in
    let boxed = boxes_stored c.self.inside.blocks.items c.insert.new.self.items c.rank_of-at.result c.in_ok-block.block c.args.bytes.now c.in_ok-block.ensures.ok c.in_ok-insert.ensures.items in
    (stores c.self.inside.known c.self.inside.conflict _ _ c.args.self.now c.args.i c.rank_of-at.result c.args.bytes.now c.self.invariant c.self.view_is c.requires.place c.requires.unknown sound c.rank_of-at.ensures boxed).changed
