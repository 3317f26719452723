use Rattle.std.proofs.Common.{◌≡◌, take}
use Rattle.udfs_overview.specs.TornFiles.{damaged_in}
use Rattle.udfs_overview.proofs.tallies.damaged_count.Given as goal

-- those so far
abbrev pub invariant-loop-file : goal.invariant-loop-file
invariant-loop-file l = l.count ≡ damaged_in (take l.file-index l.files)
