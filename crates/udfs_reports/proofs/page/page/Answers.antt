use Rattle.std.proofs.Common.{inl, inr, refl, rules, ⊎_elim}
use Rattle.udfs_reports.proofs.page.page.Goals as goal

pub returns-in-Ok-Spared-clause-why : goal.returns-in-Ok-Spared-clause-why
returns-in-Ok-Spared-clause-why g c = inl (refl, inr (inl (refl, search rules)))

pub returns-in-Ok-Unknown-clause-why : goal.returns-in-Ok-Unknown-clause-why
returns-in-Ok-Unknown-clause-why g c = ⊎_elim (λ out. inl (refl, inr (inr (out, search rules)))) (λ none. inr (inl (refl, none))) c.unwritten_volume.ensures

pub returns-in-Err-page_inputs-clause-why : goal.returns-in-Err-page_inputs-clause-why
returns-in-Err-page_inputs-clause-why g c = inr c.in-Err-page_inputs.ensures.why
