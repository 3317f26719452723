-- What a store of blocks says, it says of the table that it holds.
use Rattle.std.proofs.Common.{◌≡◌, ℕ, inl, inr, refl, subst}
use Rattle.udfs_lattice.specs.Tables.{Table, state_of}
use Rattle.udfs_lattice.specs.Volumes.{Blocks}
use Rattle.udfs_volume.specs.declared.profiles.Profile.{Profile}
use Rattle.udfs_salvage.proofs.StoreAnswers.{of_refusal}
use Rattle.udfs_salvage.specs.Stores.{IfTold, IsRefused, IsStoreRefused}
use Rattle.udfs_salvage.specs.declared.errors.SalvageError.{SalvageError}
use Rattle.udfs_salvage.specs.declared.errors.SalvageError.TheVariants as errors
use Rattle.udfs_salvage.specs.declared.errors.StoreError.{StoreError}
use Rattle.udfs_salvage.specs.declared.errors.StoreError.TheVariants.{Salvage, Unread}
use Rattle.udfs_remarks.specs.NoReports.{IsUntold, salvage_refusal_of}

-- it has no report: nor has the table
pub refused_table : (profile : Profile) (t : Table) (last : ℕ) (e : SalvageError) → IsRefused profile (state_of t) last e → IsUntold profile last (salvage_refusal_of e) t
refused_table profile t last errors.LastRange h = inr (record { why = errors.LastRange; because = h; no_lawful = (of_refusal {X = ℕ} profile (state_of t) last errors.LastRange h).of_no_lawful; told = refl })
refused_table profile t last (errors.PastEnd n) h = inr (record { why = errors.PastEnd n; because = h; no_lawful = (of_refusal {X = ℕ} profile (state_of t) last (errors.PastEnd n) h).of_no_lawful; told = refl })
refused_table profile t last errors.TooManyPaths h = inr (record { why = errors.TooManyPaths; because = h; no_lawful = (of_refusal {X = ℕ} profile (state_of t) last errors.TooManyPaths h).of_no_lawful; told = refl })
refused_table profile t last errors.OutOfMemory h = inl refl

by_error : (profile : Profile) (t : Table) (last : ℕ) (why : StoreError) → IsStoreRefused profile (state_of t) last why → IfTold (λ e. IsUntold profile last (salvage_refusal_of e) t) why
by_error profile t last (Salvage e) h = refused_table profile t last e h
by_error profile t last Unread h = tt

pub untold_by : (profile : Profile) (blocks : Blocks) (t : Table) (last : ℕ) (why : StoreError) → blocks ≡ state_of t → IsStoreRefused profile blocks last why → IfTold (λ e. IsUntold profile last (salvage_refusal_of e) t) why
untold_by profile blocks t last why same h = by_error profile t last why (subst (λ (bs : Blocks). IsStoreRefused profile bs last why) same h)
