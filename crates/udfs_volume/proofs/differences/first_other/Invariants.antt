use Rattle.std.proofs.Common.{◌≡◌, drop}
use Rattle.std.specs.Prelude.{find}
use Rattle.udfs_volume.specs.Differences.{anchors_differ}
use Rattle.udfs_volume.proofs.differences.first_other.Given as goal

-- what is left decides
abbrev pub invariant-loop-place : goal.invariant-loop-place
invariant-loop-place g l = g.B.BlockStore.tells → find (anchors_differ (g.B.BlockStore.states l.blocks) l.one) (drop l.place-index l.places) ≡ find (anchors_differ (g.B.BlockStore.states l.blocks) l.one) l.places
