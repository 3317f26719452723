use Rattle.std.proofs.Common.{ap, inl, inr, Err, ⊎_elim}
use Rattle.udfs_extraction.proofs.out_places.find_manifest_place.Goals as goal

pub returns-in-Err-Output-clause-why : goal.returns-in-Err-Output-clause-why
returns-in-Err-Output-clause-why g c = ⊎_elim (λ output. inr (inl (rw c.in-Some.is (inr (inl (output, rw c.as_slice-given.ensures.value at (rw c.as_slice-parts.ensures.value at (c.in-Err-Output.ensures.cause (ap Err c.in-Err-Output.field-0-is))))))))) (λ none. inr (inr none)) c.unwritten_volume.ensures

pub returns-in-Err : goal.returns-in-Err
returns-in-Err g c = record {
  leads = tt;
  free = tt;
  why = ⊎_elim
      (λ output. inr (inl (rw c.in-Some.is (inr (inl (output, rw c.as_slice-given.ensures.value at (rw c.as_slice-parts.ensures.value at (c.in-Err.ensures.cause (ap Err output)))))))))
      (⊎_elim
      (λ spared. inr (inl (rw c.in-Some.is (inl (spared, rw c.as_slice-given.ensures.value at (rw c.as_slice-parts.ensures.value at (c.in-Err.ensures.spared (ap Err spared))))))))
      (⊎_elim
      (λ folder. inr (inl (rw c.in-Some.is (inr (inr (folder, c.in-Err.ensures.unmade (ap Err folder)))))))
      (λ memory. inl memory)))
      c.in-Err.ensures.told;
}
