use Rattle.udfs_space.specs.Views.{view_by}
use Rattle.udfs_lawfulness.specs.Filled.{filled_view}
use Rattle.udfs_lawfulness.proofs.Mapped.{mapped_none}
use Rattle.udfs_lawfulness.proofs.filled.is_mapped.Goals as goal

pub returns-in-Ok-None-clause-value : goal.returns-in-Ok-None-clause-value
returns-in-Ok-None-clause-value g c told = mapped_none (filled_view (view_by g.B.BlockStore.states c.args.view)) c.args.address (rw c.in-Ok-None.field-0-is at (c.in-Ok-None.ensures.value told))
