use Rattle.udfs_index.proofs.IndexLemmas.{took_conflict}
use Rattle.udfs_index.proofs.index.IndexTakerCursor.dispute.Goals as goal

pub returns-in-Ok-clause-ok : goal.returns-in-Ok-clause-ok
returns-in-Ok-clause-ok g c t h = took_conflict c.args.block c.in-Ok.ensures.ok h
