use Rattle.std.proofs.Common.{◌≡◌, ◌∙◌, ◌<◌, ap, subst, arith, Some, slice_get}
use Rattle.udfs_space.specs.Places.{span_size}
use Rattle.udfs_space.proofs.Beside.{beside_got}
use Rattle.udfs_space.proofs.Partitions.{got, missed}
use Rattle.udfs_space.proofs.spaces.Space.beside.Goals as goal

pub returns-in-Some-clause-beside : goal.returns-in-Some-clause-beside
returns-in-Some-clause-beside c =
    let g : slice_get c.args.self.now.spans c.args.address.reference ≡ Some c.in-Some.span.now =
    got c.deref.result.now c.args.self.now.spans c.from.result c.args.address.reference c.in-Some.span.now (c.deref.ensures.value ∙ ap (λ s. s.spans) c.self.view_is) c.from.ensures c.in-Some.ensures.lookup.3.0 c.in-Some.ensures.lookup.1 in
    beside_got c.args.self.now c.args.address.reference c.args.address.block c.beside.result c.in-Some.span.now g c.beside.ensures.beside

pub returns-in-Some-clause-some : goal.returns-in-Some-clause-some
returns-in-Some-clause-some c l =
    let g : slice_get c.args.self.now.spans c.args.address.reference ≡ Some c.in-Some.span.now =
    got c.deref.result.now c.args.self.now.spans c.from.result c.args.address.reference c.in-Some.span.now (c.deref.ensures.value ∙ ap (λ s. s.spans) c.self.view_is) c.from.ensures c.in-Some.ensures.lookup.3.0 c.in-Some.ensures.lookup.1 in
    c.beside.ensures.some (subst (λ o. c.args.address.block < span_size o) g l)

pub returns-in-None-clause-some : goal.returns-in-None-clause-some
returns-in-None-clause-some c l = let none : c.args.address.block < 0 =
    subst (λ o. c.args.address.block < span_size o) (missed c.deref.result.now c.args.self.now.spans c.from.result c.args.address.reference (c.deref.ensures.value ∙ ap (λ s. s.spans) c.self.view_is) c.from.ensures c.in-None.ensures.lookup.3) l in omega (arith, none)
