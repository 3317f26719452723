use Rattle.std.proofs.Common.{sym}
use Rattle.udfs_lost.specs.PlacedVolumes.{placed_now}
use Rattle.udfs_extraction.proofs.lost_places.stand_in_for.Goals as goal

pub returns-in-Some-clause-place : goal.returns-in-Some-clause-place
returns-in-Some-clause-place g c known = (placed_now c.in-Some.placed, sym (rw c.in-Some.is at (c.in_ok-placed.ensures.placed known)), c.as_opened.ensures.of.0, c.as_opened.ensures.of.1)

pub returns-in-None-clause-place : goal.returns-in-None-clause-place
returns-in-None-clause-place g c known = sym (rw c.in-None.is at (c.in_ok-placed.ensures.placed known))
