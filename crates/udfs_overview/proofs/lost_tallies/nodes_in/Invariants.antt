use Rattle.std.proofs.Common.{◌≡◌, map, take}
use Rattle.udfs_overview.specs.LostTallies.{tree_nodes}
use Rattle.udfs_overview.proofs.lost_tallies.nodes_in.Given as goal

-- those so far
abbrev pub invariant-loop-tree : goal.invariant-loop-tree
invariant-loop-tree l = map (λ node. node.now) l.nodes.items ≡ tree_nodes (take l.tree-index l.trees)
