use Rattle.std.proofs.Common.{◌≡◌, take}
use Rattle.udfs_overview.specs.Tallies.{at_most_128_bits}
use Rattle.udfs_overview.specs.TornFiles.{lost_in}
use Rattle.udfs_overview.proofs.tallies.damaged_lost.Given as goal

-- those so far
abbrev pub invariant-loop-file : goal.invariant-loop-file
invariant-loop-file l = l.lost ≡ at_most_128_bits (lost_in (take l.file-index l.files))
