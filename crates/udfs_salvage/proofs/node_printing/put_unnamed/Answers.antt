use Rattle.udfs_salvage.proofs.Putting.{puts_with}
use Rattle.udfs_salvage.proofs.node_printing.put_unnamed.Goals as goal

pub returns : goal.returns
returns g c = puts_with c.put_unnamed_line.ensures c.put_gaps.ensures
