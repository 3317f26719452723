-- A tree of a root and two files, all whole and with names that differ, is lawful.
use Rattle.std.proofs.Common.{◌≡◌, ◌≢◌, refl, sym, ◌∙◌, ap, subst, inl, inr, ℕ, List, [], ◌∷◌, arith, Option, Some, None, slice_get}
use Rattle.std.specs.Prelude.{zero, suc, AllPairs, Contains, IsSome}
use Rattle.udfs_lattice.proofs.Inclusion.{Includes, contained}
use Rattle.udfs_tag.specs.declared.layouts.LongAd.{LongAd}
use Rattle.udfs_space.specs.Places.{View}
use Rattle.udfs_file.specs.declared.directories.DirEntry.{DirEntry}
use Rattle.udfs_walk.specs.Nodes.{node}
use Rattle.udfs_walk.specs.Routes.{Route, Walked, at_root, below, entries_below, walk_from, walked, IsWalk}
use Rattle.udfs_walk.specs.declared.standings.Standing.TheVariants.{Whole}
use Rattle.udfs_walk.proofs.PublicLaws.{no_more_routes}
use Rattle.udfs_walk.specs.Lawful.{IsLawfulTree}
use Rattle.udfs_walk.proofs.WholeRoutes.{Step, step_inv}

-- the nodes of such a tree
pub record AreTwoFiles (v : View) (root : LongAd) (a b : DirEntry) : Type 0 where
  pub whole_root : (node v (at_root root)).standing ≡ Whole
  pub below_root : entries_below v (at_root root) ≡ a ∷ b ∷ []
  pub whole_a : (node v (below (at_root root) a)).standing ≡ Whole
  pub below_a : entries_below v (below (at_root root) a) ≡ []
  pub whole_b : (node v (below (at_root root) b)).standing ≡ Whole
  pub below_b : entries_below v (below (at_root root) b) ≡ []
  pub differ : a.name ≢ b.name

none_differ : AllPairs (λ (d e : DirEntry). d.name ≢ e.name) []
none_differ i j d l m n = absurd (let z : ⊥ = omega (arith, m) in z)

two_differ : (a b : DirEntry) → a.name ≢ b.name → AllPairs (λ d e. d.name ≢ e.name) (a ∷ b ∷ [])
two_differ a b h zero zero d l m n = absurd (let z : ⊥ = omega (arith, l) in z)
two_differ a b h zero (suc zero) d l m n = h n
two_differ a b h zero (suc (suc j)) d l m n = absurd (let z : ⊥ = omega (arith, m) in z)
two_differ a b h (suc i) j d l m n = absurd (let z : ⊥ = omega (arith, l, m) in z)

module _ (v : View) (root : LongAd) (a b : DirEntry) (nodes : AreTwoFiles v root a b) where
  abbrev top : Walked
  top = at_root root

  abbrev at_a : Walked
  at_a = below top a

  abbrev at_b : Walked
  at_b = below top b

  abbrev Ends : Type 0
  Ends = Route × Walked

  abbrev ends : List Ends
  ends = ([], top) ∷ (0 ∷ [], at_a) ∷ (1 ∷ [], at_b) ∷ []

  each_end : (P : Walked → Type 0) → P top → P at_a → P at_b → (route : Route) (w : Walked) → Includes ends (route, w) → P w
  each_end P r p q route w (inl e) = subst (λ z. P z.1) e r
  each_end P r p q route w (inr (inl e)) = subst (λ z. P z.1) e p
  each_end P r p q route w (inr (inr (inl e))) = subst (λ z. P z.1) e q
  each_end P r p q route w (inr (inr (inr e))) = absurd e

  -- nothing lies behind a file
  leaf : (w : Walked) → entries_below v w ≡ [] → (js : Route) (end : Walked) → walk_from v w js ≡ Some end → (js ≡ []) × (w ≡ end)
  leaf w e [] end h = (refl, cc)
  leaf w e (j ∷ js) end h = let s : Step v w j js end = step_inv v w j js end h in
      absurd (let t : None ≡ Some s.entry = ap (λ z. slice_get z j) (sym e) ∙ s.at in let z : ⊥ = cc in z)

  they_end : (route : Route) (w : Walked) → walked v root route ≡ Some w → Includes ends (route, w)
  unfolding walked
  they_end [] w h = inl (let e : top ≡ w = cc in λ i. ([], e i))
  they_end (j ∷ js) w h = go j s.entry (ap (λ z. slice_get z j) (sym nodes.below_root) ∙ s.at) s.then
    where
      s : Step v top j js w
      s = step_inv v top j js w h

      go : (j : ℕ) (d : DirEntry) → slice_get (a ∷ b ∷ []) j ≡ Some d → walk_from v (below top d) js ≡ Some w → Includes ends (j ∷ js, w)
      go zero d e h = let q : a ≡ d = cc in let x : (js ≡ []) × (at_a ≡ w) = leaf at_a nodes.below_a js w (subst (λ z. walk_from v (below top z) js ≡ Some w) (sym q) h) in
          inr (inl (λ i. (0 ∷ sym x.0 i, x.1 i)))
      go (suc zero) d e h = let q : b ≡ d = cc in let x : (js ≡ []) × (at_b ≡ w) = leaf at_b nodes.below_b js w (subst (λ z. walk_from v (below top z) js ≡ Some w) (sym q) h) in
          inr (inr (inl (λ i. (1 ∷ sym x.0 i, x.1 i))))
      go (suc (suc j)) d e h = absurd (let z : ⊥ = cc in z)

  to_a : walked v root (0 ∷ []) ≡ Some at_a
  unfolding walked
  to_a = ap (λ (es : List DirEntry). elim (slice_get es 0) as (λ _. Option Walked) [ None ↦ None | Some e ↦ walk_from v (below top e) [] ]) nodes.below_root

  to_b : walked v root (1 ∷ []) ≡ Some at_b
  unfolding walked
  to_b = ap (λ (es : List DirEntry). elim (slice_get es 1) as (λ _. Option Walked) [ None ↦ None | Some e ↦ walk_from v (below top e) [] ]) nodes.below_root

  -- three routes
  is_walk : IsWalk v root (top ∷ at_a ∷ at_b ∷ [])
  unfolding walked
  is_walk = record { routes = [] ∷ (0 ∷ []) ∷ (1 ∷ []) ∷ []; in_order = (tt, (inl (omega arith), tt)); all = every; each = (refl, (to_a, (to_b, tt))) }
    where
      some_of : (o : Option Walked) → IsSome o → (x : Walked) × (o ≡ Some x)
      some_of None h = absurd (let z : ⊥ = cc in z)
      some_of (Some x) h = (x, refl)

      by_end : (route : Route) (w : Walked) → Includes ends (route, w) → Includes ([] ∷ (0 ∷ []) ∷ (1 ∷ []) ∷ []) route
      by_end route w (inl e) = inl (ap (λ z. z.0) e)
      by_end route w (inr (inl e)) = inr (inl (ap (λ z. z.0) e))
      by_end route w (inr (inr (inl e))) = inr (inr (inl (ap (λ z. z.0) e)))
      by_end route w (inr (inr (inr e))) = absurd e

      every : (route : Route) → IsSome (walked v root route) → Contains ([] ∷ (0 ∷ []) ∷ (1 ∷ []) ∷ []) route
      every route h = let x : (w : Walked) × (walked v root route ≡ Some w) = some_of (walked v root route) h in
          contained ([] ∷ (0 ∷ []) ∷ (1 ∷ []) ∷ []) route (by_end route x.0 (they_end route x.0 x.1))

  pub two_files_are_lawful : IsLawfulTree v root
  two_files_are_lawful = record {
    nodes = λ route w e. each_end (λ z. (node v z).standing ≡ Whole) nodes.whole_root nodes.whole_a nodes.whole_b route w (they_end route w e);
    distinct = λ route w e. each_end (λ z. AllPairs (λ d e. d.name ≢ e.name) (entries_below v z))
        (subst (AllPairs (λ d e. d.name ≢ e.name)) (sym nodes.below_root) (two_differ a b nodes.differ))
        (subst (AllPairs (λ d e. d.name ≢ e.name)) (sym nodes.below_a) none_differ)
        (subst (AllPairs (λ d e. d.name ≢ e.name)) (sym nodes.below_b) none_differ)
        route w (they_end route w e);
    limit = no_more_routes v root (top ∷ at_a ∷ at_b ∷ []) 65536 is_walk (omega arith);
  }
