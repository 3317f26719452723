use Rattle.std.proofs.Common.{◌≡◌, ◌*◌, ◌≤◌, ◌^◌, take}
use Rattle.udfs_overview.specs.Tallies.{bytes_of}
use Rattle.udfs_overview.proofs.tallies.bytes_of.Given as goal

-- those so far; no node has more than 2^64 bytes
abbrev pub invariant-loop-node : goal.invariant-loop-node
invariant-loop-node l = record {
  sum : l.bytes ≡ bytes_of l.sort (take l.node-index l.nodes);
  small : l.bytes ≤ l.node-index * 2 ^ 64;
}
