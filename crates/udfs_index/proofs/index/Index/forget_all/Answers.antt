use Rattle.udfs_index.proofs.IndexLemmas.{took_forgotten}
use Rattle.udfs_index.proofs.index.Index.forget_all.Goals as goal

pub returns : goal.returns
returns g c t u took left = took_forgotten c.args.blocks.now c.forget_all.ensures left took
