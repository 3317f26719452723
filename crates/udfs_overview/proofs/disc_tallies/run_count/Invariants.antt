use Rattle.std.proofs.Common.{◌≡◌, ◌+◌, ◌≤◌, length}
use Rattle.udfs_overview.specs.DiscTallies.{run_count}
use Rattle.udfs_overview.proofs.disc_tallies.run_count.Given as goal

-- the runs so far and those of the rest are all; no more than numbers
abbrev pub invariant-loop-first : goal.invariant-loop-first
invariant-loop-first l = record {
  all : l.runs + run_count l.rest ≡ run_count l.blocks;
  fits : l.runs + length l.rest ≤ length l.blocks;
}

abbrev pub decreases-loop-first : goal.decreases-loop-first
decreases-loop-first l = length l.rest
