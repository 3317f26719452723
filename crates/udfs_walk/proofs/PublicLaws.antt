-- The laws of this crate that proofs above it use. Each has the statement that the function of its name in src/laws.rt ensures.
use Rattle.std.proofs.Common.{◌<◌, length, subst}
use Rattle.udfs_walk.specs.Laws.{MoreRoutes, NoMoreRoutes, NodeCells, OnlyWalk, PathsHaveParts, RoutesStandOnce, SomeWalk}
use Rattle.udfs_walk.specs.Routes.{at_root}
use Rattle.udfs_walk.specs.Sample.{HaveSampleNodes}
use Rattle.udfs_walk.proofs.NodeCells as cells
use Rattle.udfs_walk.proofs.PathParts as parts
use Rattle.udfs_walk.proofs.RoutesOnce as once
use Rattle.udfs_walk.proofs.SampleLaw as sample
use Rattle.udfs_walk.proofs.Trees as trees

pub some_walk : SomeWalk
some_walk = λ v root. (trees.tree v (at_root root), trees.tree_walk v root)

pub only_walk : OnlyWalk
only_walk = trees.only_walk

pub no_more_routes : NoMoreRoutes
no_more_routes = trees.not_more

pub more_routes : MoreRoutes
more_routes v root walks count w lt = trees.tree_more v root count (subst (λ z. count < length z) (trees.only_walk v root walks (trees.tree v (at_root root)) w (trees.tree_walk v root)) lt)

pub routes_stand_once : RoutesStandOnce
routes_stand_once = once.once_listed

pub node_has_cells : NodeCells
node_has_cells = cells.node_cells

pub sample_nodes_are_whole : HaveSampleNodes
sample_nodes_are_whole = sample.sample_nodes

pub paths_have_parts : PathsHaveParts
paths_have_parts = parts.paths_have_parts
