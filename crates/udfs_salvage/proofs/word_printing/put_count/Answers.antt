use Rattle.udfs_salvage.proofs.Putting.{puts_with}
use Rattle.udfs_salvage.proofs.word_printing.put_count.Goals as goal

pub returns : goal.returns
returns g c = puts_with c.put.ensures c.put_number.ensures
