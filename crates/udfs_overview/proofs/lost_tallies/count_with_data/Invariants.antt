use Rattle.std.proofs.Common.{◌≡◌, take}
use Rattle.std.specs.Borrow.{Bor}
use Rattle.std.specs.Prelude.{count_by}
use Rattle.udfs_walk.specs.declared.answers.Unnamed.{Unnamed}
use Rattle.udfs_overview.specs.DiscTallies.{has_data}
use Rattle.udfs_overview.proofs.lost_tallies.count_with_data.Given as goal

-- those so far
abbrev pub invariant-loop-file : goal.invariant-loop-file
invariant-loop-file l = l.count ≡ count_by (λ (file : Bor Unnamed). has_data file.now) (take l.file-index l.files)
