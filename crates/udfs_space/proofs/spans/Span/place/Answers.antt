use Rattle.std.proofs.Common.{◌%◌, ◌<◌, arith, subst, sym}
use Rattle.std.proofs.lemmas.Nat.{mod_below}
use Rattle.udfs_space.specs.Parts.{AreSound, IsSoundEntry}
use Rattle.udfs_space.proofs.spans.Span.place.Goals as goal

pub overflow_add-result : goal.overflow_add-result
overflow_add-result c =
    let sound : IsSoundEntry c.self.inside.packet c.in-Some.entry = c.in-Some.ensures.sound c.self.inside.packet (subst (AreSound c.self.inside.packet) (sym c.deref.ensures.value) c.self.invariant.spared) in
    let less : c.args.block % c.self.inside.packet < c.self.inside.packet = mod_below c.args.block c.self.inside.packet c.self.invariant.packet in
    omega (arith, sound.ends, less)
