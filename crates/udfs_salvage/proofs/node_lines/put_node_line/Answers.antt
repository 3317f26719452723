use Rattle.std.proofs.Common.{ap}
use Rattle.udfs_walk.specs.NodeFields.{NodeFields}
use Rattle.udfs_salvage.specs.NodeTexts.{node_line}
use Rattle.udfs_salvage.proofs.Putting.{puts_same, puts_with}
use Rattle.udfs_salvage.proofs.node_lines.put_node_line.Goals as goal

pub returns : goal.returns
unfolding node_line
returns g c =
    puts_same (ap (λ (n : NodeFields). node_line c.args.number n) c.node.view_is)
    (puts_with (puts_with (puts_with c.put_count.ensures c.put_told.ensures) c.put_path.ensures) c.put.ensures)
