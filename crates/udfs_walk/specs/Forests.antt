-- The nodes of the walks from several roots, each the information control block of a directory.
--     IsForest view roots trees               the nodes of the walk from each of these roots
--     IsForestRefused view roots error        there are too many
--     IsUnsettledForest view roots trees      the nodes, not yet settled
--     icbs_in trees                           the information control blocks of all of them, each once
use Rattle.std.specs.Prelude.{◌≤◌, ◌<◌, ⊤, ℕ, List, length, map, sum_by, flat_map, IsSome, Contains}
use Rattle.std.specs.List.{AllZip}
use Rattle.udfs_lattice.specs.Volumes.{ascending}
use Rattle.udfs_space.specs.Places.{View}
use Rattle.udfs_walk.specs.Counting.{icb_key}
use Rattle.udfs_walk.specs.NodeFields.{NodeFields}
use Rattle.udfs_walk.specs.Routes.{Route, IsInOrder, walked}
use Rattle.udfs_walk.specs.Targets.{Icb}
use Rattle.udfs_walk.specs.UnnamedEntries.{address_of}
use Rattle.udfs_walk.specs.Unsettled.{AreUnsettled}
use Rattle.udfs_walk.specs.Walks.{AreNodes}
use Rattle.udfs_walk.specs.declared.answers.NodesError.{NodesError}
use Rattle.udfs_walk.specs.declared.answers.NodesError.TheVariants.{TooManyPaths, OutOfMemory}

-- the nodes of the walk from this root
abbrev pub IsTree : View → Icb → List NodeFields → Type 0
IsTree view icb nodes = AreNodes view (address_of icb) nodes

-- the nodes of the walk from each of these roots, one list of each, with at most 65,536 nodes together
pub record IsForest (view : View) (roots : List Icb) (trees : List (List NodeFields)) : Type 0 where
  pub each : AllZip (IsTree view) roots trees
  pub few : sum_by length trees ≤ 65536

-- the routes, in order, each lead from the root to a node
pub record AreRoutesFrom (view : View) (icb : Icb) (routes : List Route) : Type 0 where
  pub in_order : IsInOrder routes
  pub lead : (route : Route) → Contains routes route → IsSome (walked view (address_of icb) route)

-- more than `count` routes lead from these roots to nodes, all of them together
pub record HaveMoreRoutes (view : View) (roots : List Icb) (count : ℕ) : Type 0 where
  pub routes : List (List Route)
  pub each : AllZip (AreRoutesFrom view) roots routes
  pub more : count < sum_by length routes

-- TooManyPaths comes only where more than 65,536 routes lead from all roots together; OutOfMemory may always come
abbrev pub IsForestRefused : View → List Icb → NodesError → Type 0
IsForestRefused view roots TooManyPaths = HaveMoreRoutes view roots 65536
IsForestRefused view roots OutOfMemory = ⊤

-- the nodes of the walk from this root, not yet settled
abbrev pub IsUnsettledTree : View → Icb → List NodeFields → Type 0
IsUnsettledTree view icb nodes = AreUnsettled view (address_of icb) nodes

-- the nodes of the walks from all roots, not yet settled
pub record IsUnsettledForest (view : View) (roots : List Icb) (trees : List (List NodeFields)) : Type 0 where
  pub each : AllZip (IsUnsettledTree view) roots trees
  pub few : sum_by length trees ≤ 65536

-- the information control blocks of all nodes, as numbers
abbrev pub keys_in : List (List NodeFields) → List ℕ
keys_in trees = flat_map (map icb_key) trees

-- and each once
abbrev pub icbs_in : List (List NodeFields) → List ℕ
icbs_in trees = ascending (keys_in trees)
