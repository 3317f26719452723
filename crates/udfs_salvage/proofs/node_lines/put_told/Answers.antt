use Rattle.udfs_salvage.specs.NodeTexts.{told_text}
use Rattle.udfs_salvage.proofs.Putting.{puts_with}
use Rattle.udfs_salvage.proofs.node_lines.put_told.Goals as goal

pub returns : goal.returns
unfolding told_text
returns g c = puts_with (puts_with (puts_with c.put_standing.ensures c.put_kind.ensures) c.put_size.ensures) c.put_time.ensures
