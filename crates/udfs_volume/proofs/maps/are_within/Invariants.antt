use Rattle.std.proofs.Common.{◌≡◌, drop}
use Rattle.udfs_volume.specs.Layout.{are_within}
use Rattle.udfs_volume.proofs.maps.are_within.Given as goal

abbrev pub invariant-loop-place : goal.invariant-loop-place
invariant-loop-place l = are_within l.last l.size (drop l.place-index l.places) ≡ are_within l.last l.size l.places
