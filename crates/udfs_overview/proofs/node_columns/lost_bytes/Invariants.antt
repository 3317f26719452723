use Rattle.std.proofs.Common.{◌≡◌, ◌*◌, ◌≤◌, ◌^◌, take}
use Rattle.udfs_overview.specs.NodeLists.{lost_bytes}
use Rattle.udfs_overview.proofs.node_columns.lost_bytes.Given as goal

-- the sum so far; no hole has more than 2^64 bytes
abbrev pub invariant-loop-hole : goal.invariant-loop-hole
invariant-loop-hole l = record {
  sum : l.lost ≡ lost_bytes (take l.hole-index l.holes);
  small : l.lost ≤ l.hole-index * 2 ^ 64;
}
