use Rattle.std.proofs.Common.{◌≡◌, take}
use Rattle.std.specs.Borrow.{Bor}
use Rattle.std.specs.Prelude.{count_by}
use Rattle.udfs_walk.specs.NodeFields.{NodeFields}
use Rattle.udfs_overview.specs.Tallies.{is_node_of}
use Rattle.udfs_overview.proofs.lost_tallies.count_sort.Given as goal

-- those so far
abbrev pub invariant-loop-node : goal.invariant-loop-node
invariant-loop-node l = l.count ≡ count_by (λ (node : Bor NodeFields). is_node_of l.sort node.now) (take l.node-index l.nodes)
