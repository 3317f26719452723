-- The blocks so far and those of the rest that are not known are all.
use Rattle.std.proofs.Common.{◌≡◌, ◌++◌, drop}
use Rattle.udfs_lattice.specs.Volumes.{not_known}
use Rattle.udfs_reports.proofs.comparing.not_known.Given as goal

abbrev pub invariant-loop-number : goal.invariant-loop-number
invariant-loop-number g l = g.B.BlockStore.tells → l.unread.items ++ not_known (g.B.BlockStore.states l.blocks) (drop l.number-index l.numbers) ≡ not_known (g.B.BlockStore.states l.blocks) l.numbers
