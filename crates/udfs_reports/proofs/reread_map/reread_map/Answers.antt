use Rattle.std.proofs.Common.{inl, inr, refl, rules, ⊎_elim}
use Rattle.udfs_reports.proofs.reread_map.reread_map.Goals as goal

pub returns-in-Ok-Spared-clause-why : goal.returns-in-Ok-Spared-clause-why
returns-in-Ok-Spared-clause-why g c = inl (refl, refl, inr (inl (refl, search rules)))

pub returns-in-Ok-Unknown-clause-why : goal.returns-in-Ok-Unknown-clause-why
returns-in-Ok-Unknown-clause-why g c = ⊎_elim (λ out. inl (refl, refl, inr (inr (inl (out, search rules))))) (λ none. inl (refl, refl, inr (inr (inr none)))) c.unwritten_volume.ensures

pub returns-in-Err-map_inputs-clause-why : goal.returns-in-Err-map_inputs-clause-why
returns-in-Err-map_inputs-clause-why g c = inr c.in-Err-map_inputs.ensures.why
