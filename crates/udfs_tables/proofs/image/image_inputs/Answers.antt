use Rattle.std.proofs.Common.{inl}
use Rattle.udfs_common.proofs.NamingLemmas.{shut_names_none}
use Rattle.udfs_common.proofs.StoredLemmas.{of_shut}
use Rattle.udfs_tables.proofs.PairingLemmas.{unbegun}
use Rattle.udfs_tables.proofs.image.image_inputs.Goals as goal

pub image_stored-requires-clause-opened : goal.image_stored-requires-clause-opened
image_stored-requires-clause-opened g c = rw c.as_slice.ensures.value (rw c.as_slice-paths.ensures.value at (rw c.in-Ok-Some.field-0-is at c.in-Ok-Some.ensures.opened))

pub image_stored-requires-clause-judged : goal.image_stored-requires-clause-judged
image_stored-requires-clause-judged g c = rw c.as_slice.ensures.value (rw c.as_slice-paths.ensures.value at (rw c.in-Ok-Some.field-0-is at c.in-Ok-Some.ensures.judged))

pub returns-in-Err-clause-puts : goal.returns-in-Err-clause-puts
returns-in-Err-clause-puts g c = unbegun _ _ _ _ _ _ g.met.F.Files.only_now

pub returns-in-Err-clause-why : goal.returns-in-Err-clause-why
returns-in-Err-clause-why g c = inl (of_shut _ _ _ _ _ (rw c.as_slice-paths.ensures.value at c.in-Err.ensures.blamed), λ forced. shut_names_none _ _ _ c.in-Err.ensures.blamed)
