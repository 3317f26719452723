-- The trees of lost folders.
--     AreLostTrees view folders trees              the nodes of the walk from each of these folders
--     IsTreesRefused view folders error            there are too many
--     AreOf folders forest trees                   the trees have these folders and these nodes, in this order
use Rattle.std.specs.Prelude.{◌≡◌, ◌≤◌, ⊤, ℕ, List, length, map, sum_by}
use Rattle.std.specs.List.{AllZip}
use Rattle.std.specs.declared.alloc.Global.{Global}
use Rattle.std.specs.declared.vec.Vec.{Vec}
use Rattle.udfs_space.specs.Places.{View}
use Rattle.udfs_walk.specs.Bare.{full_node}
use Rattle.udfs_walk.specs.Forests.{HaveMoreRoutes}
use Rattle.udfs_walk.specs.NodeFields.{NodeFields}
use Rattle.udfs_walk.specs.Targets.{Icb}
use Rattle.udfs_walk.specs.UnnamedEntries.{address_of}
use Rattle.udfs_walk.specs.Walks.{AreNodes}
use Rattle.udfs_walk.specs.declared.answers.NodesError.{NodesError}
use Rattle.udfs_walk.specs.declared.answers.NodesError.TheVariants.{TooManyPaths, OutOfMemory}
use Rattle.udfs_lost.specs.declared.trees.LostTree.{LostTree}

-- the tree has the nodes of the walk from this folder, without their blocks and holes
pub record IsLostTree (view : View) (icb : Icb) (tree : LostTree) : Type 0 where
  pub folder : tree.folder ≡ icb
  pub nodes : AreNodes view (address_of icb) (map (full_node view) tree.nodes.items)

-- how many nodes there are in all
abbrev pub count_nodes : List LostTree → ℕ
count_nodes trees = sum_by (λ t. length t.nodes.items) trees

-- these are the trees of the folders, one of each, with at most 65,536 nodes together
pub record AreLostTrees (view : View) (folders : List Icb) (trees : List LostTree) : Type 0 where
  pub each : AllZip (IsLostTree view) folders trees
  pub few : count_nodes trees ≤ 65536

-- the trees have these folders and these nodes, in this order
pub record AreOf (folders : List Icb) (forest : List (Vec NodeFields Global)) (trees : List LostTree) : Type 0 where
  pub folders_are : map (λ (t : LostTree). t.folder) trees ≡ folders
  pub nodes_are : map (λ (t : LostTree). t.nodes) trees ≡ forest

-- TooManyPaths comes only where more than 65,536 routes lead from all folders together; OutOfMemory may always come
abbrev pub IsTreesRefused : View → List Icb → NodesError → Type 0
IsTreesRefused view folders TooManyPaths = HaveMoreRoutes view folders 65536
IsTreesRefused view folders OutOfMemory = ⊤
