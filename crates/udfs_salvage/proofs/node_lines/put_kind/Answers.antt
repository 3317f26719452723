use Rattle.udfs_salvage.proofs.Putting.{puts_with, puts_same}
use Rattle.udfs_salvage.proofs.node_lines.put_kind.Goals as goal

pub returns : goal.returns
returns g c = puts_with c.put.ensures (puts_same c.kind_word.ensures.word c.put_word.ensures)
