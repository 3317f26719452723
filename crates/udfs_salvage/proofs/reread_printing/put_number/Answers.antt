use Rattle.std.proofs.Common.{rules}
use Rattle.udfs_reading.proofs.PrintingPublicLaws.{puts_two}
use Rattle.udfs_salvage.proofs.reread_printing.put_number.Goals as goal

pub returns : goal.returns
returns g c = puts_two c.put_number.ensures c.put.ensures (search rules)
