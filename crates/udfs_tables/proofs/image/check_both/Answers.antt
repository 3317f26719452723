use Rattle.std.specs.Prelude.{Err}
use Rattle.std.proofs.Common.{ap, inl, inr, rules, ⊎_elim}
use Rattle.udfs_tables.proofs.image.check_both.Goals as goal

pub returns-in-Err-Output-clause-why : goal.returns-in-Err-Output-clause-why
returns-in-Err-Output-clause-why g c =
    ⊎_elim (λ out. inr (inr (inl (out, rw (← c.as_slice-given.ensures.value, ← c.as_slice-parts.ensures.value) (c.in-Err-Output.ensures.cause (search rules)))))) (λ inputs. inr (inr (inr inputs))) c.unwritten_of.ensures

pub returns-in-Err-clause-why : goal.returns-in-Err-clause-why
returns-in-Err-clause-why g c =
    rw (← c.as_slice-given.ensures.value, ← c.as_slice-parts.ensures.value)
    (⊎_elim (λ out. inr (inr (inl (out, c.in-Err.ensures.cause (ap (λ x. Err x) out))))) (λ other. ⊎_elim (λ is. inr (inl (is, c.in-Err.ensures.spared (ap (λ x. Err x) is)))) (λ memory. inl memory) other) c.in-Err.ensures.told)
