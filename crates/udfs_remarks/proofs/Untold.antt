-- Why a table has no report.
use Rattle.std.proofs.Common.{◌≡◌, refl, inl, inr, ℕ}
use Rattle.udfs_lattice.specs.Tables.{Table, state_of}
use Rattle.udfs_volume.specs.declared.profiles.Profile.{Profile}
use Rattle.udfs_salvage.specs.Reports.{HasTooManyPathsBy, IsNothingPast, IsOutOfRange, IsPastEnd}
use Rattle.udfs_salvage.specs.TreeReports.{IsOfNoLawfulBy}
use Rattle.udfs_salvage.specs.declared.errors.SalvageError.{SalvageError}
use Rattle.udfs_salvage.specs.declared.errors.SalvageError.TheVariants.{LastRange, OutOfMemory, PastEnd, TooManyPaths}
use Rattle.udfs_remarks.specs.NoReports.{IsUntold, salvage_refusal_of}

pub untold : (profile : Profile) (table : Table) (last : ℕ) (e : SalvageError) → (e ≡ LastRange → IsOutOfRange last) → ((n : ℕ) → e ≡ PastEnd n → (¬ IsOutOfRange last) × IsPastEnd (state_of table) last n) →
    (e ≡ TooManyPaths → (¬ IsOutOfRange last) × IsNothingPast (state_of table) last × HasTooManyPathsBy profile (state_of table) last) → IsOfNoLawfulBy profile (state_of table) last e → IsUntold profile last (salvage_refusal_of e) table
untold profile table last LastRange range past many lawful = inr (record { why = LastRange; because = range refl; no_lawful = lawful; told = refl })
untold profile table last (PastEnd n) range past many lawful = inr (record { why = PastEnd n; because = past n refl; no_lawful = lawful; told = refl })
untold profile table last TooManyPaths range past many lawful = inr (record { why = TooManyPaths; because = many refl; no_lawful = lawful; told = refl })
untold profile table last OutOfMemory range past many lawful = inl refl
