use Rattle.std.proofs.Common.{inl, inr, refl}
use Rattle.udfs_common.proofs.PutsLemmas.{wider}
use Rattle.udfs_common.proofs.NamingLemmas.{err_is, unput_names_none}
use Rattle.udfs_tables.proofs.ForgettingLemmas.{forgets_held}
use Rattle.udfs_common.proofs.StoredLemmas.{of_held}
use Rattle.udfs_tables.proofs.forget.forget_held.Goals as goal

pub returns-in-Ok-put_file-clause-puts : goal.returns-in-Ok-put_file-clause-puts
returns-in-Ok-put_file-clause-puts g c = wider _ _ (λ bytes is. (_, forgets_held _ _ _ _ _ _ c.requires c.in-Ok.ensures.joined c.forget_blocks.ensures, is)) c.in-Ok-put_file.ensures.puts

pub returns-clause-puts : goal.returns-clause-puts
returns-clause-puts g c = wider _ _ (λ bytes is. (_, forgets_held _ _ _ _ _ _ c.requires c.in-Ok.ensures.joined c.forget_blocks.ensures, is)) c.in-Err-put_file.ensures.puts

pub returns-clause-why : goal.returns-clause-why
returns-clause-why g c = (inr c.in-Err-put_file.ensures.why, λ forced. unput_names_none _ _ c.in-Err-put_file.ensures.why)

pub returns-in-Err-clause-why : goal.returns-in-Err-clause-why
returns-in-Err-clause-why g c = (inl (of_held _ _ _ _ _ _ c.in-Err.ensures.refused.0), c.in-Err.ensures.refused.2)

pub returns-in-Err-clause-unkept : goal.returns-in-Err-clause-unkept
returns-in-Err-clause-unkept g c is tells = absurd (c.in-Err.ensures.refused.1 (err_is is refl))

pub returns-clause-unkept : goal.returns-clause-unkept
returns-clause-unkept g c is tells = (_, (_, forgets_held _ _ _ _ _ _ c.requires c.in-Ok.ensures.joined c.forget_blocks.ensures, refl), c.in-Err-put_file.ensures.unkept is tells)
