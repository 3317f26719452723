use Rattle.std.proofs.Common.{inl, inr, refl}
use Rattle.udfs_common.proofs.NamingLemmas.{err_is}
use Rattle.udfs_tables.proofs.OutlookLemmas.{out_early}
use Rattle.udfs_tables.proofs.merge.merge.Goals as goal

pub returns-in-Err-clause-why : goal.returns-in-Err-clause-why
returns-in-Err-clause-why g c = inl c.in-Err.ensures.why

pub returns-in-Err-merge_inputs-clause-why : goal.returns-in-Err-merge_inputs-clause-why
returns-in-Err-merge_inputs-clause-why g c = inr c.in-Err-merge_inputs.ensures.why

pub returns-in-Err-clause-unkept : goal.returns-in-Err-clause-unkept
returns-in-Err-clause-unkept g c is tells = absurd (out_early _ c.in-Err.ensures.why (err_is is refl))
