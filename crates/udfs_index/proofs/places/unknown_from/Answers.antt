use Rattle.std.proofs.Common.{refl, arith}
use Rattle.std.proofs.lemmas.Option.{slice_get_read}
use Rattle.udfs_index.proofs.SlotLemmas.{ahead_in, ahead_of}
use Rattle.udfs_index.proofs.places.unknown_from.Goals as goal

pub returns-in-Some : goal.returns-in-Some
returns-in-Some c j lt =
    let there = c.in-Some.ensures.lookup in
    let was = slice_get_read c.args.packets.now _ _ c.in-Some.packet.now refl there.3.0 there.1 in
    ahead_in c.args.packets.now c.in-Some.packet.now c.args.n j was (omega (arith, lt, c.unknown_from.ensures.most)) (c.unknown_from.ensures.unknown j lt)

pub returns-in-None : goal.returns-in-None
returns-in-None c j lt = ahead_of c.args.packets.now c.args.n j c.in-None.ensures.lookup.3
