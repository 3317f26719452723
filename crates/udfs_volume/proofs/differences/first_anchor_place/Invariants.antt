use Rattle.std.proofs.Common.{◌≡◌, drop}
use Rattle.std.specs.Prelude.{find}
use Rattle.udfs_volume.specs.Differences.{has_anchor}
use Rattle.udfs_volume.proofs.differences.first_anchor_place.Given as goal

-- what is left decides
abbrev pub invariant-loop-place : goal.invariant-loop-place
invariant-loop-place g l = g.B.BlockStore.tells → find (has_anchor (g.B.BlockStore.states l.blocks)) (drop l.place-index l.places) ≡ find (has_anchor (g.B.BlockStore.states l.blocks)) l.places
