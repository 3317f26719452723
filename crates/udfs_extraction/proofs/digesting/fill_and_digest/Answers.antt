use Rattle.udfs_extraction.proofs.DigestLemmas.{digest_of_told}
use Rattle.udfs_extraction.proofs.digesting.fill_and_digest.Goals as goal

pub returns-in-Ok-clause-digest : goal.returns-in-Ok-clause-digest
returns-in-Ok-clause-digest g c tells = digest_of_told g.F.Files.tells _ _ c.finalize.result c.in-Ok.field-0.taken c.finalize.ensures tells
