-- What is told of a volume beside its report.
--     IsVerdict rules blocks last report verdict     it is true of these blocks
use Rattle.std.specs.Prelude.{◌≡◌, ℕ}
use Rattle.udfs_lattice.specs.Volumes.{Blocks}
use Rattle.udfs_volume.specs.declared.profiles.Profile.{Profile}
use Rattle.udfs_salvage.specs.Reports.{Report}
use Rattle.udfs_lawfulness.specs.Lawfulness.{IsDecided}
use Rattle.udfs_overview.specs.LostTallies.{IsTallyBy}
use Rattle.udfs_overview.specs.Searched.{looked_in, searched}
use Rattle.udfs_overview.specs.declared.verdicts.Verdict.{Verdict}

-- whether the volume is lawful is answered as it is; and these are the trees of what is lost of it, looked for where that is to be, and counted so
pub record IsVerdict (rules : Profile) (blocks : Blocks) (last : ℕ) (r : Report) (v : Verdict) : Type 0 where
  pub decided : IsDecided rules blocks last v.lawfulness
  pub place : looked_in blocks r v.found ≡ searched rules blocks last r
  pub tallied : IsTallyBy (searched rules blocks last r) v.found.trees.items v.lost
