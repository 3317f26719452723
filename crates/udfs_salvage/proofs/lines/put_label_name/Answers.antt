use Rattle.udfs_salvage.proofs.Putting.{puts_with}
use Rattle.udfs_salvage.proofs.lines.put_label_name.Goals as goal

pub returns : goal.returns
returns g c = puts_with (puts_with c.put.ensures c.put_escaped.ensures) c.put-2.ensures
