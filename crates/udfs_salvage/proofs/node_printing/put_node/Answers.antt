use Rattle.std.proofs.Common.{ap}
use Rattle.udfs_walk.specs.NodeFields.{NodeFields}
use Rattle.udfs_salvage.specs.NodeTexts.{gap_lines}
use Rattle.udfs_salvage.proofs.Putting.{puts_same, puts_with}
use Rattle.udfs_salvage.proofs.node_printing.put_node.Goals as goal

pub returns : goal.returns
returns g c = puts_with c.put_node_line.ensures (puts_same (ap (λ (n : NodeFields). gap_lines n.standing) c.node.view_is) c.put_gaps.ensures)
