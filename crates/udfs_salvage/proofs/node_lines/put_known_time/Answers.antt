use Rattle.udfs_salvage.proofs.Putting.{puts_with}
use Rattle.udfs_salvage.proofs.node_lines.put_known_time.Goals as goal

pub returns : goal.returns
returns g c = puts_with c.put.ensures c.put_stamp.ensures
