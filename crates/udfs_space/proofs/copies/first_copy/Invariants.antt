use Rattle.std.proofs.Common.{◌≡◌, drop}
use Rattle.udfs_lattice.specs.Volumes.{first_known}
use Rattle.udfs_space.specs.Sparing.{copies}
use Rattle.udfs_space.proofs.copies.first_copy.Given as goal

abbrev pub invariant-loop-place : goal.invariant-loop-place
invariant-loop-place g l = g.B.BlockStore.tells → first_known (g.B.BlockStore.states l.blocks) (copies (drop l.place-index l.places) l.k) ≡ first_known (g.B.BlockStore.states l.blocks) (copies l.places l.k)
