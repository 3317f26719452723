use Rattle.std.proofs.Common.{◌≡◌, ◌++◌, map, take}
use Rattle.udfs_lost.proofs.unplaced_entries.with_files.Given as goal

abbrev pub invariant-loop-file : goal.invariant-loop-file
invariant-loop-file l = l.found ≡ l.fn.found ++ map (λ file. file.now) (take l.file-index l.files)
