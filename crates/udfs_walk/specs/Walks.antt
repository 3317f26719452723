-- What is listed of a volume.
--     AreNodes view root nodes          the nodes at the ends of all routes
--     IsNodesRefused view root error    there are too many
use Rattle.std.specs.Prelude.{◌≡◌, ◌≤◌, List, length, map, ⊤}
use Rattle.udfs_tag.specs.declared.layouts.LongAd.{LongAd}
use Rattle.udfs_space.specs.Places.{View}
use Rattle.udfs_walk.specs.NodeFields.{NodeFields}
use Rattle.udfs_walk.specs.Routes.{Walked, IsWalk, HasMoreRoutes}
use Rattle.udfs_walk.specs.Nodes.{node}
use Rattle.udfs_walk.specs.declared.answers.NodesError.{NodesError}
use Rattle.udfs_walk.specs.declared.answers.NodesError.TheVariants.{TooManyPaths, OutOfMemory}

-- the nodes at the ends of all routes, in lexicographic order of the routes, of which there are at most 65,536
pub record AreNodes (view : View) (root : LongAd) (nodes : List NodeFields) : Type 0 where
  pub walks : List Walked
  pub walk : IsWalk view root walks
  pub few : length walks ≤ 65536
  pub is : nodes ≡ map (node view) walks

-- TooManyPaths comes only where more than 65,536 routes lead anywhere; OutOfMemory may always come
abbrev pub IsNodesRefused : View → LongAd → NodesError → Type 0
IsNodesRefused view root TooManyPaths = HasMoreRoutes view root 65536
IsNodesRefused view root OutOfMemory = ⊤
