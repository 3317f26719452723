use Rattle.std.proofs.Common.{◌≡◌, ◌++◌, drop}
use Rattle.udfs_lattice.specs.Volumes.{not_known}
use Rattle.udfs_volume.proofs.anchors.not_known.Given as goal

abbrev pub invariant-loop-place : goal.invariant-loop-place
invariant-loop-place g l = g.B.BlockStore.tells → l.unread.items ++ not_known (g.B.BlockStore.states l.blocks) (drop l.place-index l.places) ≡ not_known (g.B.BlockStore.states l.blocks) l.places
