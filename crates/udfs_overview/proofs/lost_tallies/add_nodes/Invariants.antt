use Rattle.std.proofs.Common.{◌≡◌, ◌++◌, map, take}
use Rattle.udfs_overview.proofs.lost_tallies.add_nodes.Given as goal

-- those so far
abbrev pub invariant-loop-node : goal.invariant-loop-node
invariant-loop-node l = map (λ node. node.now) l.found.items ≡ map (λ node. node.now) l.fn.found.items ++ take l.node-index l.nodes
