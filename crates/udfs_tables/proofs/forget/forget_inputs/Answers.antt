use Rattle.std.proofs.Common.{inl, refl}
use Rattle.udfs_common.proofs.NamingLemmas.{err_is, shut_early, shut_names_none}
use Rattle.udfs_common.proofs.StoredLemmas.{of_shut}
use Rattle.udfs_tables.proofs.forget.forget_inputs.Goals as goal

pub forget_stored-requires-clause-opened : goal.forget_stored-requires-clause-opened
forget_stored-requires-clause-opened g c = rw c.as_slice.ensures.value (rw c.as_slice-paths.ensures.value at (rw c.in-Ok-Some.field-0-is at c.in-Ok-Some.ensures.opened))

pub forget_stored-requires-clause-judged : goal.forget_stored-requires-clause-judged
forget_stored-requires-clause-judged g c = rw c.as_slice.ensures.value (rw c.as_slice-paths.ensures.value at (rw c.in-Ok-Some.field-0-is at c.in-Ok-Some.ensures.judged))

pub returns-in-Err-clause-why : goal.returns-in-Err-clause-why
returns-in-Err-clause-why g c = (inl (of_shut _ _ _ _ _ (rw c.as_slice-paths.ensures.value at c.in-Err.ensures.blamed)), λ forced. shut_names_none _ _ _ c.in-Err.ensures.blamed)

pub returns-in-Err-clause-unkept : goal.returns-in-Err-clause-unkept
returns-in-Err-clause-unkept g c is tells = absurd (shut_early _ _ _ c.in-Err.ensures.blamed (err_is is refl))
