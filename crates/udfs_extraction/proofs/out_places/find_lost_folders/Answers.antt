use Rattle.std.proofs.Common.{inl, inr, ⊎_elim}
use Rattle.udfs_extraction.proofs.out_places.find_lost_folders.Goals as goal

pub returns-in-Err-clause-why : goal.returns-in-Err-clause-why
returns-in-Err-clause-why g c = ⊎_elim (λ memory. inl memory) (λ taken. inr (inl taken)) c.in-Err.ensures.why

pub returns-in-Err-find_trees_folder-clause-why : goal.returns-in-Err-find_trees_folder-clause-why
returns-in-Err-find_trees_folder-clause-why g c = ⊎_elim (λ memory. inl memory) (λ taken. inr (inr taken)) c.in-Err-find_trees_folder.ensures.why
