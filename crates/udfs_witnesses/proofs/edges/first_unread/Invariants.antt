-- All before are known.
use Rattle.std.proofs.Common.{◌≡◌, ◌≤◌, ◌<◌, ℕ, true}
use Rattle.udfs_lattice.specs.States.{is_known}
use Rattle.udfs_witnesses.proofs.edges.first_unread.Given as goal

abbrev pub invariant-loop-n : goal.invariant-loop-n
invariant-loop-n g l = (l.fn.from ≤ l.n) × (g.B.BlockStore.tells → (m : ℕ) → l.fn.from ≤ m → m < l.n → is_known (g.B.BlockStore.states l.blocks m) ≡ true)
