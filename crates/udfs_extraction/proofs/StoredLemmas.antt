-- What is said of a store that has no report, or of which a block could not be read again.
use Rattle.std.proofs.Common.{◌≡◌, ◌∙◌, ℕ, inl, inr, refl, subst, sym, ◌+◌}
use Rattle.udfs_lattice.specs.Tables.{Table, state_of}
use Rattle.udfs_lattice.specs.Volumes.{Blocks}
use Rattle.udfs_volume.specs.declared.profiles.Profile.{Profile}
use Rattle.udfs_salvage.proofs.StoreAnswers.{of_refusal}
use Rattle.udfs_salvage.specs.Stores.{IsRefused, IsStoreRefused}
use Rattle.udfs_salvage.specs.declared.errors.SalvageError.{SalvageError}
use Rattle.udfs_salvage.specs.declared.errors.SalvageError.TheVariants as errors
use Rattle.udfs_salvage.specs.declared.errors.StoreError.{StoreError}
use Rattle.udfs_salvage.specs.declared.errors.StoreError.TheVariants.{Salvage}
use Rattle.udfs_common.specs.Refused.{IsRereadOf}
use Rattle.udfs_common.specs.declared.refusal.Refusal.{Refusal}
use Rattle.udfs_common.specs.declared.refusal.Refusal.TheVariants.{NoNode, Reread}
use Rattle.udfs_remarks.specs.NoReports.{IsUntold, salvage_refusal_of}

-- a store has no report: nor has the table that it holds
refused_table : (profile : Profile) (t : Table) (last : ℕ) (e : SalvageError) → IsRefused profile (state_of t) last e → IsUntold profile last (salvage_refusal_of e) t
refused_table profile t last errors.LastRange h = inr (record { why = errors.LastRange; because = h; no_lawful = (of_refusal {X = ℕ} profile (state_of t) last errors.LastRange h).of_no_lawful; told = refl })
refused_table profile t last (errors.PastEnd n) h = inr (record { why = errors.PastEnd n; because = h; no_lawful = (of_refusal {X = ℕ} profile (state_of t) last (errors.PastEnd n) h).of_no_lawful; told = refl })
refused_table profile t last errors.TooManyPaths h = inr (record { why = errors.TooManyPaths; because = h; no_lawful = (of_refusal {X = ℕ} profile (state_of t) last errors.TooManyPaths h).of_no_lawful; told = refl })
refused_table profile t last errors.OutOfMemory h = inl refl

pub untold_store : (profile : Profile) (blocks : Blocks) (t : Table) (last : ℕ) (why : StoreError) (error : SalvageError) (refusal : Refusal) → blocks ≡ state_of t → why ≡ Salvage error → refusal ≡ salvage_refusal_of error → IsStoreRefused profile blocks last why → IsUntold profile last refusal t
untold_store profile blocks t last why error refusal same is told h =
    let refused : IsRefused profile blocks last error = subst (λ (w : StoreError). IsStoreRefused profile blocks last w) is h in
    subst (λ (r : Refusal). IsUntold profile last r t) (sym told) (refused_table profile t last error (subst (λ (bs : Blocks). IsRefused profile bs last error) same refused))

-- an input that could not be read again is no path
pub reread_no_node : (count : ℕ) (refusal : Refusal) (i : ℕ) → refusal ≡ NoNode i → IsRereadOf count refusal → ⊥
reread_no_node count refusal i is (place, number, below, told) = let bad : NoNode i ≡ Reread (place + 1) number = sym is ∙ told in cc
