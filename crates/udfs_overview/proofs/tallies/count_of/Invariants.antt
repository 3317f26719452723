use Rattle.std.proofs.Common.{◌≡◌, take}
use Rattle.udfs_overview.specs.Tallies.{count_of}
use Rattle.udfs_overview.proofs.tallies.count_of.Given as goal

-- those so far
abbrev pub invariant-loop-node : goal.invariant-loop-node
invariant-loop-node l = l.count ≡ count_of l.sort (take l.node-index l.nodes)
