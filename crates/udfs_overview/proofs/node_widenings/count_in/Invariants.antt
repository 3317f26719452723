use Rattle.std.proofs.Common.{◌≡◌, ◌≤◌, take}
use Rattle.std.specs.Prelude.{count_by}
use Rattle.udfs_space.specs.Views.{view_by}
use Rattle.udfs_overview.specs.NodeWidenings.{is_wider}
use Rattle.udfs_overview.proofs.node_widenings.count_in.Given as goal

-- those so far, no more than nodes
abbrev pub invariant-loop-node : goal.invariant-loop-node
invariant-loop-node g l = record {
  value : g.B.BlockStore.tells → l.count ≡ count_by (is_wider (view_by g.B.BlockStore.states l.view)) (take l.node-index l.nodes);
  fits : l.count ≤ l.node-index;
}
