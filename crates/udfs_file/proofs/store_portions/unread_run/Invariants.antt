use Rattle.std.proofs.Common.{◌≤◌, ◌<◌, ◌+◌, ◌-◌, ℕ}
use Rattle.udfs_space.specs.Places.{block_at}
use Rattle.udfs_space.specs.Views.{view_by}
use Rattle.udfs_file.specs.Portions.{IsUnreadAt}
use Rattle.udfs_file.proofs.store_portions.unread_run.Given as goal

abbrev pub invariant-blocks-2 : goal.invariant-blocks-2
invariant-blocks-2 g l = record {
  most : l.count ≤ l.most;
  unread : g.B.BlockStore.tells → (j : ℕ) → j < l.count → IsUnreadAt (block_at (view_by g.B.BlockStore.states l.view) l.address.reference (l.address.block + l.behind + j)) (l.n + j);
}

abbrev pub decreases-blocks-2 : goal.decreases-blocks-2
decreases-blocks-2 g l = l.most - l.count
