use Rattle.std.proofs.Common.{◌≡◌, ◌++◌, drop}
use Rattle.udfs_lattice.specs.Volumes.{not_known}
use Rattle.udfs_lawfulness.proofs.structures.not_known.Given as goal

-- the numbers so far with those of the blocks that are left are all
abbrev pub invariant-loop-n : goal.invariant-loop-n
invariant-loop-n g l = g.B.BlockStore.tells → l.unread.items ++ not_known (g.B.BlockStore.states l.blocks) (drop l.n-index l.numbers) ≡ not_known (g.B.BlockStore.states l.blocks) l.numbers
