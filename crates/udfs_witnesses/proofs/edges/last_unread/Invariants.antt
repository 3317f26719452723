-- All after are known.
use Rattle.std.proofs.Common.{◌≡◌, ◌≤◌, ◌<◌, ◌-◌, ℕ, true}
use Rattle.udfs_lattice.specs.States.{is_known}
use Rattle.udfs_witnesses.proofs.edges.last_unread.Given as goal

abbrev pub invariant-loop-n : goal.invariant-loop-n
invariant-loop-n g l = record {
  from : l.fn.from ≤ l.n;
  to : l.n ≤ l.fn.to;
  known : g.B.BlockStore.tells → (m : ℕ) → l.n < m → m ≤ l.fn.to → is_known (g.B.BlockStore.states l.blocks m) ≡ true;
}

abbrev pub decreases-loop-n : goal.decreases-loop-n
decreases-loop-n g l = l.n - l.from
