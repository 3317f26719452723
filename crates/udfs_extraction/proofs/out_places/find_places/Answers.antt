use Rattle.std.proofs.Common.{inl, inr, ⊎_elim}
use Rattle.udfs_extraction.proofs.out_places.find_places.Goals as goal

pub returns-in-Err-clause-why : goal.returns-in-Err-clause-why
returns-in-Err-clause-why g c = ⊎_elim (λ memory. inl memory) (λ more. inr (⊎_elim (λ place. inl place) (λ none. inr (inr (inr (inl none)))) more)) c.in-Err.ensures.why

pub returns-in-Err-find_lost_folders-clause-why : goal.returns-in-Err-find_lost_folders-clause-why
returns-in-Err-find_lost_folders-clause-why g c = ⊎_elim (λ memory. inl memory) (λ taken. inr (inr (⊎_elim (λ lost. inl lost) (λ trees. inr (inl trees)) taken))) c.in-Err-find_lost_folders.ensures.why
