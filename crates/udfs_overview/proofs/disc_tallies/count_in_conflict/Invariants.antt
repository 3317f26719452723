use Rattle.std.proofs.Common.{◌≡◌, ◌≤◌, take}
use Rattle.std.specs.Prelude.{count_by}
use Rattle.udfs_overview.specs.DiscTallies.{is_in_conflict}
use Rattle.udfs_overview.proofs.disc_tallies.count_in_conflict.Given as goal

-- those so far, no more than numbers
abbrev pub invariant-loop-number : goal.invariant-loop-number
invariant-loop-number g l = record {
  value : g.B.BlockStore.tells → l.count ≡ count_by (is_in_conflict (g.B.BlockStore.states l.blocks)) (take l.number-index l.numbers);
  fits : l.count ≤ l.number-index;
}
