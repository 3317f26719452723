use Rattle.std.proofs.Common.{◌≡◌, take}
use Rattle.std.specs.Prelude.{count_by}
use Rattle.udfs_overview.specs.Tallies.{is_aside}
use Rattle.udfs_overview.proofs.tallies.count_aside.Given as goal

-- those so far
abbrev pub invariant-loop-node : goal.invariant-loop-node
invariant-loop-node l = l.count ≡ count_by is_aside (take l.node-index l.nodes)
