use Rattle.std.proofs.Common.{◌≡◌, take}
use Rattle.std.specs.Borrow.{Bor}
use Rattle.std.specs.Prelude.{count_by}
use Rattle.udfs_walk.specs.NodeFields.{NodeFields}
use Rattle.udfs_overview.specs.LostTallies.{is_lost_directory}
use Rattle.udfs_overview.proofs.lost_tallies.count_folders.Given as goal

-- those so far
abbrev pub invariant-loop-node : goal.invariant-loop-node
invariant-loop-node l = l.count ≡ count_by (λ (node : Bor NodeFields). is_lost_directory node.now) (take l.node-index l.nodes)
