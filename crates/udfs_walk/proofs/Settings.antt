-- A part of a complete view with a lawful tree, and what stands at the end of a route of the part.
use Rattle.std.proofs.Common.{◌≡◌, sym, ◌∙◌, ap, ℕ, List, Some}
use Rattle.udfs_tag.specs.declared.layouts.LongAd.{LongAd}
use Rattle.udfs_space.specs.Places.{View, IsPartOf}
use Rattle.udfs_file.specs.Complete.{IsComplete}
use Rattle.udfs_file.specs.Laws.{IsPartialBody}
use Rattle.udfs_walk.specs.Routes.{Route, Walked, walked}
use Rattle.udfs_walk.specs.Trees.{PartitionBlocks, Leads, InTree}
use Rattle.udfs_walk.specs.Lawful.{IsLawfulTree}
use Rattle.udfs_walk.proofs.WholeFiles.{IsReadFile}
use Rattle.udfs_walk.proofs.WholeRoutes.{WholeAt, whole_at, file_at, IsRouteTo, RoutesArePaths, route_law}
use Rattle.udfs_walk.proofs.PartRoutes.{part_at, part_route}

-- a part of a complete view with a lawful tree; routes are the paths of the tree
pub record Setting (some all : View) (blocks : PartitionBlocks) (root : LongAd) : Type 0 where
  pub part : IsPartOf some all
  pub is_whole : IsComplete all blocks
  pub lawful : IsLawfulTree all root
  pub routes : RoutesArePaths all blocks root

pub setting : (some all : View) (blocks : PartitionBlocks) → IsPartOf some all → IsComplete all blocks → (root : LongAd) → IsLawfulTree all root → Setting some all blocks root
setting some all blocks p c root l = record { part = p; is_whole = c; lawful = l; routes = route_law all blocks c root l.nodes }

-- the end of a route, which the complete view has too
pub record Here (some all : View) (blocks : PartitionBlocks) (root : LongAd) (w : Walked) : Type 0 where
  pub route : Route
  pub walks : walked all root route ≡ Some w
  pub at : WholeAt all w
  pub file : IsReadFile blocks w.address at.fields at.cs

pub here_all : (some all : View) (blocks : PartitionBlocks) (root : LongAd) → Setting some all blocks root → (route : Route) (w : Walked) → walked all root route ≡ Some w → Here some all blocks root w
here_all some all blocks root s route w walks = record { route = route; walks = walks; at = at; file = file_at all blocks s.is_whole w at }
  where
    at : WholeAt all w
    at = whole_at all w (s.lawful.nodes route w walks)

pub here : (some all : View) (blocks : PartitionBlocks) (root : LongAd) → Setting some all blocks root → (route : Route) (w : Walked) → walked some root route ≡ Some w → Here some all blocks root w
here some all blocks root s route w walks = here_all some all blocks root s route w (part_route some all s.part root s.lawful.nodes route w walks)

-- the body there, in part
abbrev pub part_here : (some all : View) (blocks : PartitionBlocks) (root : LongAd) → Setting some all blocks root → (w : Walked) (h : Here some all blocks root w)
    → IsPartialBody some all w.address.reference w.address.block h.at.fields h.at.cs
part_here some all blocks root s w h = part_at some all s.part w h.at

-- the tree has its file
pub tree_here : (some all : View) (blocks : PartitionBlocks) (root : LongAd) → Setting some all blocks root → (w : Walked) (h : Here some all blocks root w) → InTree blocks root w.path h.file.file
tree_here some all blocks root s w h = record { address = w.address; leads = s.routes.is_path h.route w h.walks; is_file = h.file.is_file }

-- names differ, so what a path leads to is what a route with this path leads to
pub one_end : (some all : View) (blocks : PartitionBlocks) (root : LongAd) → Setting some all blocks root → (v w : Walked) → Here some all blocks root v → Here some all blocks root w → v.path ≡ w.path → v ≡ w
one_end some all blocks root s v w g h p = some_same v w (sym g.walks ∙ ap (walked all root) (s.routes.one s.lawful.distinct g.route h.route v w g.walks h.walks p) ∙ h.walks)
  where
    some_same : (x y : Walked) → Some x ≡ Some y → x ≡ y
    some_same x y e = cc

pub one_address : (some all : View) (blocks : PartitionBlocks) (root : LongAd) → Setting some all blocks root → (w : Walked) → Here some all blocks root w → (path : List (List ℕ)) (address : LongAd) → w.path ≡ path
    → Leads blocks root path address → address ≡ w.address
one_address some all blocks root s w h path address p leads = sym u.address_is ∙ ap (λ z. z.address) (one_end some all blocks root s u.end w (here_all some all blocks root s u.route u.end u.leads) h (u.path_is ∙ sym p))
  where
    u : IsRouteTo all root path address
    u = s.routes.is_route path address leads
