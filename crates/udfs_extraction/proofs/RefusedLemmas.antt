-- Why `extract` refuses: what is said of a listing is said of its report.
use Rattle.std.proofs.Common.{◌≡◌, ◌≢◌, ◌⊎◌, ◌∙◌, ℕ, List, alloc_error, inl, inr, map, refl, ⊎_elim}
use Rattle.udfs_host_fs.specs.Jobs.{JobBlames}
use Rattle.udfs_host_fs.specs.declared.replacing.JobError.{JobError}
use Rattle.udfs_host_fs.specs.declared.replacing.JobError.TheVariants as job
use Rattle.udfs_host_fs.specs.declared.replacing.ReplaceError.TheVariants as replace
use Rattle.udfs_lattice.specs.Volumes.{Blocks}
use Rattle.udfs_reading.specs.Device.{Stream}
use Rattle.udfs_volume.specs.Answers.{Answer}
use Rattle.udfs_walk.specs.NodeFields.{NodeFields}
use Rattle.udfs_salvage.specs.Found.{Found}
use Rattle.udfs_salvage.specs.Listings.{full_in}
use Rattle.udfs_common.specs.Refusing.{IsUnput}
use Rattle.udfs_common.specs.declared.refusal.Refusal.{Refusal}
use Rattle.udfs_common.specs.declared.refusal.Refusal.TheVariants.{Memory, Output, Unkept}
use Rattle.udfs_extraction.specs.Refused.{NamesNoNode, StopsBefore}
use Rattle.udfs_extraction.specs.declared.manifest_text.TextError.{TextError}
use Rattle.udfs_extraction.specs.declared.manifest_text.TextError.TheVariants as text
use Rattle.udfs_salvage.proofs.ListedNodes.{same_node}

-- ---- before anything is made

-- a path is no node's of the listing, and so none of the report's
named_so : (M : Blocks) (a : Answer Found) (only : List (List ℕ)) (ns : List NodeFields) (refusal : Refusal) → NamesNoNode only ns refusal → NamesNoNode only (map (full_in M a) ns) refusal
named_so M a only ns refusal x = record {
  place = x.place;
  word = x.word;
  stands = x.stands;
  is_none = same_node M a ns x.word ∙ x.is_none;
  first = λ k earlier less at. same_node M a ns earlier ∙ x.first k earlier less at;
  named = x.named;
}

pub unnamed_before : {F : Type 0} (Failed : Type 0) (M : Blocks) (a : Answer Found) (only : List (List ℕ)) (ns : List NodeFields) (files : F) (s : Stream) (refusal : Refusal) → (refusal ≡ Memory alloc_error) ⊎ NamesNoNode only ns refusal → StopsBefore Failed only (map (full_in M a) ns) files files s s refusal
unnamed_before Failed M a only ns files s refusal why = (refl, inl (refl, ⊎_elim (λ memory. inl memory) (λ none. inr (named_so M a only ns refusal none)) why))

-- ---- a manifest that was not put

pub unput_by : (Failed : Type 0) (error : JobError TextError) (refusal : Refusal)
    → (refusal ≡ Memory alloc_error) ⊎ (((refusal ≡ Output) ⊎ (refusal ≡ Unkept)) × ((error ≢ job.Files replace.OutOfMemory) × (error ≢ job.Refused text.OutOfMemory))) → JobBlames (λ e. e ≡ text.NotWritten) Failed error → IsUnput Failed refusal
unput_by Failed error refusal (inl memory) blames = inl memory
unput_by Failed error refusal (inr (told, lasts)) blames = inr (told, failed error lasts.0 lasts.1 blames)
  where
    failed : (error : JobError TextError) → (error ≢ job.Files replace.OutOfMemory) → (error ≢ job.Refused text.OutOfMemory) → JobBlames (λ e. e ≡ text.NotWritten) Failed error → Failed
    failed (job.Files replace.OutOfMemory) no_files no_job blames = absurd (no_files refl)
    failed (job.Files replace.NotMade) no_files no_job blames = blames (λ e. let is : replace.NotMade ≡ replace.OutOfMemory = e in cc)
    failed (job.Files replace.NotWritten) no_files no_job blames = blames (λ e. let is : replace.NotWritten ≡ replace.OutOfMemory = e in cc)
    failed (job.Files replace.LeftBehind) no_files no_job blames = blames (λ e. let is : replace.LeftBehind ≡ replace.OutOfMemory = e in cc)
    failed (job.Files replace.NotKept) no_files no_job blames = blames (λ e. let is : replace.NotKept ≡ replace.OutOfMemory = e in cc)
    failed (job.Refused text.OutOfMemory) no_files no_job blames = absurd (no_job refl)
    failed (job.Refused text.NotWritten) no_files no_job blames = blames refl
    failed (job.RefusedLeft x) no_files no_job blames = blames
