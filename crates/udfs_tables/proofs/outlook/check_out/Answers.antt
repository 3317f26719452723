use Rattle.std.proofs.Common.{inl, inr, refl, rules, ⊎_elim}
use Rattle.udfs_tables.proofs.OutlookLemmas.{unseen}
use Rattle.udfs_tables.proofs.outlook.check_out.Goals as goal

pub returns-in-Ok-Spared-clause-why : goal.returns-in-Ok-Spared-clause-why
returns-in-Ok-Spared-clause-why g c = inr (inl (refl, search rules))

pub returns-in-Ok-Unknown-clause-why : goal.returns-in-Ok-Unknown-clause-why
returns-in-Ok-Unknown-clause-why g c =
    ⊎_elim (λ out. inr (inr (inl (out, rw (← c.as_slice-given.ensures.value, ← c.as_slice-parts.ensures.value) (unseen _ _ _ _ _ (search rules)))))) (λ inputs. inr (inr (inr inputs))) c.unwritten_of.ensures
