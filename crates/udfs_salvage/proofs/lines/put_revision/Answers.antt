use Rattle.udfs_salvage.proofs.Putting.{puts_with, puts_same}
use Rattle.udfs_salvage.proofs.lines.put_revision.Goals as goal

pub returns : goal.returns
returns g c = puts_with (puts_with c.put.ensures (puts_same c.revision_name.ensures.name c.put-2.ensures)) c.put-3.ensures
