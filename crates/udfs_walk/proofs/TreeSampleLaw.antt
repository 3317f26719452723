-- The nodes of a view with the files of a sample volume: its root and two files, all whole. So its tree is lawful, and both files stand in it.
use Rattle.std.proofs.Common.{◌≡◌, ◌≢◌, refl, sym, ◌∙◌, ap, subst, inl, inr, ℕ, List, [], ◌∷◌, arith, Option, Some, None, slice_get}
use Rattle.std.specs.Prelude.{zero, suc, AllPairs, Contains, IsSome}
use Rattle.udfs_lattice.proofs.Inclusion.{Includes, contained}
use Rattle.udfs_volume.specs.Sample.{Maps}
use Rattle.udfs_space.specs.Places.{View}
use Rattle.udfs_file.specs.Complete.{IsComplete}
use Rattle.udfs_file.specs.Sample.{icb_of_a, icb_of_b, entry_named, sample_root}
use Rattle.udfs_file.specs.declared.directories.DirEntry.{DirEntry}
use Rattle.udfs_walk.specs.Routes.{Route, Walked, below, entries_below, walk_from, walked, IsWalk}
use Rattle.udfs_walk.specs.Nodes.{node}
use Rattle.udfs_walk.specs.declared.standings.Standing.TheVariants.{Whole}
use Rattle.udfs_walk.specs.Sample.{AreNodesIn, at_a, at_b, top}
use Rattle.udfs_walk.proofs.PublicLaws.{no_more_routes}
use Rattle.udfs_walk.specs.Lawful.{IsLawfulTree}
use Rattle.udfs_walk.specs.TreeSample.{HasSampleFiles, SampleTree}
use Rattle.udfs_walk.specs.Trees.{PartitionBlocks}
use Rattle.udfs_walk.proofs.CompleteNodes.{route_in_tree}
use Rattle.udfs_walk.proofs.WholeRoutes.{Step, step_inv}

-- ---- all routes
abbrev Ends : Type 0
Ends = Route × Walked

abbrev ends : Maps → List Ends
ends maps = ([], top) ∷ (0 ∷ [], at_a) ∷ (1 ∷ [], at_b maps) ∷ []

abbrev listed : Maps → List DirEntry
listed maps = entry_named 0x41 icb_of_a ∷ entry_named 0x42 (icb_of_b maps) ∷ []

each_end : (maps : Maps) (P : Walked → Type 0) → P top → P at_a → P (at_b maps) → (route : Route) (w : Walked) → Includes (ends maps) (route, w) → P w
each_end maps P r a b route w (inl e) = subst (λ z. P z.1) e r
each_end maps P r a b route w (inr (inl e)) = subst (λ z. P z.1) e a
each_end maps P r a b route w (inr (inr (inl e))) = subst (λ z. P z.1) e b
each_end maps P r a b route w (inr (inr (inr e))) = absurd e

names_differ : (maps : Maps) → AllPairs (λ d e. d.name ≢ e.name) (listed maps)
names_differ maps zero zero d l m n = absurd (let z : ⊥ = omega (arith, l) in z)
names_differ maps zero (suc zero) d l m n = let e : 65 ≡ 66 = ap head n in let z : ⊥ = omega (arith, e) in z
  where
    head : List ℕ → ℕ
    head [] = 0
    head (x ∷ xs) = x
names_differ maps zero (suc (suc j)) d l m n = absurd (let z : ⊥ = omega (arith, m) in z)
names_differ maps (suc i) j d l m n = absurd (let z : ⊥ = omega (arith, l, m) in z)

none_differ : AllPairs (λ (d e : DirEntry). d.name ≢ e.name) []
none_differ i j d l m n = absurd (let z : ⊥ = omega (arith, m) in z)

module _ (v : View) (maps : Maps) (nodes : AreNodesIn v maps) where
  -- nothing lies behind a file
  leaf : (w : Walked) → entries_below v w ≡ [] → (js : Route) (end : Walked) → walk_from v w js ≡ Some end → (js ≡ []) × (w ≡ end)
  leaf w e [] end h = (refl, cc)
  leaf w e (j ∷ js) end h = let s : Step v w j js end = step_inv v w j js end h in
      absurd (let t : None ≡ Some s.entry = ap (λ z. slice_get z j) (sym e) ∙ s.at in let z : ⊥ = cc in z)

  they_end : (route : Route) (w : Walked) → walked v sample_root route ≡ Some w → Includes (ends maps) (route, w)
  unfolding walked
  they_end [] w h = inl (let e : top ≡ w = cc in λ i. ([], e i))
  they_end (j ∷ js) w h = go j s.entry (ap (λ z. slice_get z j) (sym nodes.below_root) ∙ s.at) s.then
    where
      s : Step v top j js w
      s = step_inv v top j js w h

      go : (j : ℕ) (d : DirEntry) → slice_get (listed maps) j ≡ Some d → walk_from v (below top d) js ≡ Some w → Includes (ends maps) (j ∷ js, w)
      go zero d e h = let q : entry_named 0x41 icb_of_a ≡ d = cc in let x : (js ≡ []) × (at_a ≡ w) = leaf at_a nodes.below_a js w (subst (λ z. walk_from v (below top z) js ≡ Some w) (sym q) h) in
          inr (inl (λ i. (0 ∷ sym x.0 i, x.1 i)))
      go (suc zero) d e h = let q : entry_named 0x42 (icb_of_b maps) ≡ d = cc in let x : (js ≡ []) × (at_b maps ≡ w) = leaf (at_b maps) nodes.below_b js w (subst (λ z. walk_from v (below top z) js ≡ Some w) (sym q) h) in
          inr (inr (inl (λ i. (1 ∷ sym x.0 i, x.1 i))))
      go (suc (suc j)) d e h = absurd (let z : ⊥ = cc in z)

  to_a : walked v sample_root (0 ∷ []) ≡ Some at_a
  unfolding walked
  to_a = ap (λ (es : List DirEntry). elim (slice_get es 0) as (λ _. Option Walked) [ None ↦ None | Some e ↦ walk_from v (below top e) [] ]) nodes.below_root

  to_b : walked v sample_root (1 ∷ []) ≡ Some (at_b maps)
  unfolding walked
  to_b = ap (λ (es : List DirEntry). elim (slice_get es 1) as (λ _. Option Walked) [ None ↦ None | Some e ↦ walk_from v (below top e) [] ]) nodes.below_root

  -- three routes
  is_walk : IsWalk v sample_root (top ∷ at_a ∷ at_b maps ∷ [])
  unfolding walked
  is_walk = record { routes = [] ∷ (0 ∷ []) ∷ (1 ∷ []) ∷ []; in_order = (tt, (inl (omega arith), tt)); all = every; each = (refl, (to_a, (to_b, tt))) }
    where
      some_of : (o : Option Walked) → IsSome o → (x : Walked) × (o ≡ Some x)
      some_of None h = absurd (let z : ⊥ = cc in z)
      some_of (Some x) h = (x, refl)

      by_end : (route : Route) (w : Walked) → Includes (ends maps) (route, w) → Includes ([] ∷ (0 ∷ []) ∷ (1 ∷ []) ∷ []) route
      by_end route w (inl e) = inl (ap (λ z. z.0) e)
      by_end route w (inr (inl e)) = inr (inl (ap (λ z. z.0) e))
      by_end route w (inr (inr (inl e))) = inr (inr (inl (ap (λ z. z.0) e)))
      by_end route w (inr (inr (inr e))) = absurd e

      every : (route : Route) → IsSome (walked v sample_root route) → Contains ([] ∷ (0 ∷ []) ∷ (1 ∷ []) ∷ []) route
      every route h = let x : (w : Walked) × (walked v sample_root route ≡ Some w) = some_of (walked v sample_root route) h in
          contained ([] ∷ (0 ∷ []) ∷ (1 ∷ []) ∷ []) route (by_end route x.0 (they_end route x.0 x.1))

  small_tree : IsLawfulTree v sample_root
  small_tree = record {
    nodes = λ route w e. each_end maps (λ z. (node v z).standing ≡ Whole) nodes.whole_root nodes.whole_a nodes.whole_b route w (they_end route w e);
    distinct = λ route w e. each_end maps (λ z. AllPairs (λ d e. d.name ≢ e.name) (entries_below v z))
        (subst (AllPairs (λ d e. d.name ≢ e.name)) (sym nodes.below_root) (names_differ maps))
        (subst (AllPairs (λ d e. d.name ≢ e.name)) (sym nodes.below_a) none_differ)
        (subst (AllPairs (λ d e. d.name ≢ e.name)) (sym nodes.below_b) none_differ)
        route w (they_end route w e);
    limit = no_more_routes v sample_root (top ∷ at_a ∷ at_b maps ∷ []) 65536 is_walk (omega arith);
  }

  -- whatever gives its blocks, both files stand in it
  small_files : (blocks : PartitionBlocks) → IsComplete v blocks → HasSampleFiles blocks
  small_files blocks c = record {
    a = route_in_tree v blocks c sample_root small_tree (0 ∷ []) at_a to_a;
    b = route_in_tree v blocks c sample_root small_tree (1 ∷ []) (at_b maps) to_b;
  }

pub sample_tree_law : SampleTree
sample_tree_law v maps nodes = (small_tree v maps nodes, small_files v maps nodes)
