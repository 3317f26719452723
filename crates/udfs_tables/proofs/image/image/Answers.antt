use Rattle.std.proofs.Common.{inl, inr, ⊎_elim}
use Rattle.udfs_tables.proofs.PairingLemmas.{unbegun}
use Rattle.udfs_tables.proofs.image.image.Goals as goal

pub image_inputs-requires : goal.image_inputs-requires
image_inputs-requires g c = rw c.as_slice-paths.ensures.value at c.in-Ok-last_block.ensures.ends

pub returns-in-Err-clause-puts : goal.returns-in-Err-clause-puts
returns-in-Err-clause-puts g c = unbegun _ _ _ _ _ _ g.met.F.Files.only_now

pub returns-in-Err-last_block-clause-puts : goal.returns-in-Err-last_block-clause-puts
returns-in-Err-last_block-clause-puts g c = unbegun _ _ _ _ _ _ g.met.F.Files.only_now

pub returns-in-Err-clause-why : goal.returns-in-Err-clause-why
returns-in-Err-clause-why g c = inl c.in-Err.ensures.why

pub returns-in-Err-last_block-clause-why : goal.returns-in-Err-last_block-clause-why
returns-in-Err-last_block-clause-why g c = inr (inl (rw c.as_slice-paths.ensures.value at c.in-Err-last_block.ensures.blamed, c.in-Err-last_block.ensures.forced))

pub returns-in-Err-image_inputs-clause-why : goal.returns-in-Err-image_inputs-clause-why
returns-in-Err-image_inputs-clause-why g c = inr (inr (⊎_elim (λ untaken. inl untaken) (λ unput. inr unput) c.in-Err-image_inputs.ensures.why))
