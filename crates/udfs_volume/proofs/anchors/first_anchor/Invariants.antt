use Rattle.std.proofs.Common.{◌≡◌, drop}
use Rattle.udfs_volume.specs.Sequence.{first_anchor}
use Rattle.udfs_volume.proofs.anchors.first_anchor.Given as goal

abbrev pub invariant-loop-place : goal.invariant-loop-place
invariant-loop-place g l = g.B.BlockStore.tells → first_anchor (g.B.BlockStore.states l.blocks) (drop l.place-index l.places) ≡ first_anchor (g.B.BlockStore.states l.blocks) l.places
