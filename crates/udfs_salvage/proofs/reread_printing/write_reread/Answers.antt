use Rattle.std.proofs.Common.{sym}
use Rattle.udfs_salvage.proofs.reread_printing.write_reread.Goals as goal

pub returns : goal.returns
returns g c = rw (sym c.deref.ensures.value) c.write_numbers.ensures
