use Rattle.std.proofs.Common.{◌≡◌, ◌*◌, ◌≤◌, ◌^◌, cond, take}
use Rattle.std.specs.Borrow.{Bor}
use Rattle.std.specs.Prelude.{sum_by}
use Rattle.udfs_walk.specs.NodeFields.{NodeFields}
use Rattle.udfs_overview.specs.Tallies.{is_node_of, or_zero}
use Rattle.udfs_overview.proofs.lost_tallies.count_bytes.Given as goal

-- those so far; no node has more than 2^64 bytes
abbrev pub invariant-loop-node : goal.invariant-loop-node
invariant-loop-node l = record {
  sum : l.bytes ≡ sum_by (λ (node : Bor NodeFields). cond (is_node_of l.sort node.now) (or_zero node.now.size) 0) (take l.node-index l.nodes);
  small : l.bytes ≤ l.node-index * 2 ^ 64;
}
