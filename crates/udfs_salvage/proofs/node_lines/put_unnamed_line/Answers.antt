use Rattle.udfs_salvage.specs.NodeTexts.{unnamed_line}
use Rattle.udfs_salvage.proofs.Putting.{puts_with}
use Rattle.udfs_salvage.proofs.node_lines.put_unnamed_line.Goals as goal

pub returns : goal.returns
unfolding unnamed_line
returns g c = puts_with (puts_with (puts_with c.put.ensures c.put_place.ensures) c.put_told.ensures) c.put-2.ensures
