-- A route stands once among routes that are in order.
use Rattle.std.proofs.Common.{◌≡◌, ap, subst, inl, inr, ℕ, List, [], ◌∷◌, Some, slice_get}
use Rattle.std.specs.Prelude.{zero, suc}
use Rattle.udfs_lattice.proofs.Inclusion.{Includes}
use Rattle.udfs_walk.specs.Laws.{RoutesStandOnce}
use Rattle.udfs_walk.specs.Routes.{Route}
use Rattle.udfs_walk.proofs.RouteOrder.{AreOrdered, ordered, before_none}

includes_at : (rs : List Route) (k : ℕ) (r : Route) → slice_get rs k ≡ Some r → Includes rs r
includes_at [] k r e = absurd (let z : ⊥ = cc in z)
includes_at (s ∷ rs) zero r e = inl cc
includes_at (s ∷ rs) (suc k) r e = inr (includes_at rs k r e)

once_from : (rs : List Route) (i j : ℕ) (r : Route) → AreOrdered rs → slice_get rs i ≡ Some r → slice_get rs j ≡ Some r → i ≡ j
once_from [] i j r o p q = absurd (let z : ⊥ = cc in z)
once_from (s ∷ rs) zero zero r o p q = λ i. zero
once_from (s ∷ rs) zero (suc j) r o p q = absurd (before_none s (o.0 s (subst (Includes rs) (let e : r ≡ s = cc in e) (includes_at rs j r q))))
once_from (s ∷ rs) (suc i) zero r o p q = absurd (before_none s (o.0 s (subst (Includes rs) (let e : r ≡ s = cc in e) (includes_at rs i r p))))
once_from (s ∷ rs) (suc i) (suc j) r o p q = ap suc (once_from rs i j r o.1 p q)

pub once_listed : RoutesStandOnce
once_listed rs i j r o p q = once_from rs i j r (ordered rs o) p q
