use Rattle.std.proofs.Common.{◌≡◌, ◌∙◌, ap, Some, slice_get}
use Rattle.udfs_space.proofs.Partitions.{got, missed, place-got, place-missed, sound-got, sound-missed}
use Rattle.udfs_space.proofs.spaces.Space.find.Goals as goal

pub returns-in-Some-clause-value : goal.returns-in-Some-clause-value
returns-in-Some-clause-value c =
    let g : slice_get c.args.self.now.spans c.args.reference ≡ Some c.in-Some.span.now =
    got c.deref.result.now c.args.self.now.spans c.from.result c.args.reference c.in-Some.span.now (c.deref.ensures.value ∙ ap (λ s. s.spans) c.self.view_is) c.from.ensures c.in-Some.ensures.lookup.3.0 c.in-Some.ensures.lookup.1 in
    place-got c.args.self.now c.args.reference c.args.block c.in-Some.span.now c.place.result g c.place.ensures.value

pub returns-in-Some-clause-sound : goal.returns-in-Some-clause-sound
returns-in-Some-clause-sound c =
    let g : slice_get c.args.self.now.spans c.args.reference ≡ Some c.in-Some.span.now =
    got c.deref.result.now c.args.self.now.spans c.from.result c.args.reference c.in-Some.span.now (c.deref.ensures.value ∙ ap (λ s. s.spans) c.self.view_is) c.from.ensures c.in-Some.ensures.lookup.3.0 c.in-Some.ensures.lookup.1 in
    sound-got c.args.self.now.spans c.args.reference c.in-Some.span.now g c.place.ensures.sound

pub returns-in-None-clause-value : goal.returns-in-None-clause-value
returns-in-None-clause-value c = place-missed c.args.self.now c.args.reference c.args.block
    (missed c.deref.result.now c.args.self.now.spans c.from.result c.args.reference (c.deref.ensures.value ∙ ap (λ s. s.spans) c.self.view_is) c.from.ensures c.in-None.ensures.lookup.3)

pub returns-in-None-clause-sound : goal.returns-in-None-clause-sound
returns-in-None-clause-sound c = sound-missed c.args.self.now.spans c.args.reference
    (missed c.deref.result.now c.args.self.now.spans c.from.result c.args.reference (c.deref.ensures.value ∙ ap (λ s. s.spans) c.self.view_is) c.from.ensures c.in-None.ensures.lookup.3)
