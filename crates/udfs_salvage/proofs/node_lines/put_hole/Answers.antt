use Rattle.udfs_salvage.proofs.Putting.{puts_with}
use Rattle.udfs_salvage.proofs.node_lines.put_hole.Goals as goal

pub returns : goal.returns
returns g c = puts_with (puts_with (puts_with c.put_count.ensures c.put.ensures) c.put_number.ensures) c.put-2.ensures
