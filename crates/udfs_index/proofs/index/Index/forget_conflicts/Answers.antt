use Rattle.udfs_index.proofs.IndexLemmas.{took_settled}
use Rattle.udfs_index.proofs.index.Index.forget_conflicts.Goals as goal

pub returns : goal.returns
returns g c t u took left = took_settled c.forget_conflicts.ensures left took
