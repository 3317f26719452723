use Rattle.std.proofs.Common.{refl}
use Rattle.udfs_index.proofs.HeadLemmas.{packet_taken}
use Rattle.udfs_index.proofs.by_heads.take_packet.Goals as goal

pub take_blocks-requires : goal.take_blocks-requires
take_blocks-requires g c κs =
    let follows = c.in-Some.ensures.follows in
    ((refl, tt), (follows.there, (follows.masks, (c.requires.taken, (c.in-Some.ensures.within, c.requires.size)))))

pub returns-in-Ok-clause-ok : goal.returns-in-Ok-clause-ok
returns-in-Ok-clause-ok g c = packet_taken c.args.next.low c.in-Some.head.packet c.in-Some.head.known c.in-Some.head.conflict c.in-Some.ensures.follows c.in-Some.ensures.given c.in-Ok.ensures.ok
