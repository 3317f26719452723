use Rattle.std.proofs.Common.{arith, subst, sym}
use Rattle.udfs_volume.specs.Laws.{IsBounded}
use Rattle.udfs_volume.specs.LayoutParts.{parts_now}
use Rattle.bench_core.proofs.places.space.Goals as goal

pub build-requires-clause-to : goal.build-requires-clause-to
build-requires-clause-to c = omega (arith, c.in-Got.ensures.bounded.is_last)

pub build-requires-clause-bounded : goal.build-requires-clause-bounded
build-requires-clause-bounded c = subst (λ n. IsBounded n (parts_now c.in-Got.parts)) (sym c.in-Got.ensures.bounded.is_last) c.in-Got.ensures.bounded
