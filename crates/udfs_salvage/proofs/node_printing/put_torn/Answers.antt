use Rattle.udfs_salvage.proofs.Putting.{puts_with}
use Rattle.udfs_salvage.proofs.node_printing.put_torn.Goals as goal

pub returns : goal.returns
returns g c = puts_with c.put_missings.ensures c.put_holes.ensures
