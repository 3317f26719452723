use Rattle.std.proofs.Common.{inl, inr, refl}
use Rattle.udfs_common.proofs.NamingLemmas.{err_is}
use Rattle.udfs_tables.proofs.ForgettingLemmas.{lists_early}
use Rattle.udfs_tables.proofs.OutlookLemmas.{out_early}
use Rattle.udfs_tables.proofs.forget.forget.Goals as goal

pub forget_inputs-requires : goal.forget_inputs-requires
forget_inputs-requires g c = rw c.as_slice.ensures.value (rw c.as_slice-lists.ensures.value at c.in-Ok-listed.ensures.listed)

pub returns-in-Err-clause-why : goal.returns-in-Err-clause-why
returns-in-Err-clause-why g c = inl c.in-Err.ensures.why

pub returns-in-Err-listed-clause-why : goal.returns-in-Err-listed-clause-why
returns-in-Err-listed-clause-why g c = inr (inl (rw c.as_slice-lists.ensures.value at c.in-Err-listed.ensures.why))

pub returns-clause-why : goal.returns-clause-why
returns-clause-why g c = inr (inr c.in-Err-forget_inputs.ensures.why)

pub returns-in-Err-clause-unkept : goal.returns-in-Err-clause-unkept
returns-in-Err-clause-unkept g c is tells = absurd (out_early _ c.in-Err.ensures.why (err_is is refl))

pub returns-in-Err-listed-clause-unkept : goal.returns-in-Err-listed-clause-unkept
returns-in-Err-listed-clause-unkept g c is tells = absurd (lists_early _ _ _ _ c.in-Err-listed.ensures.why (err_is is refl))
