use Rattle.udfs_index.proofs.IndexLemmas.{took_none}
use Rattle.udfs_index.proofs.index.Index.new.Goals as goal

pub returns : goal.returns
returns g c = rw c.new-2.ensures.items (took_none c.in_ok-new.field-0.packets.items c.in_ok-new.ensures)
