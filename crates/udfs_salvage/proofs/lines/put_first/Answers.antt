use Rattle.std.proofs.Common.{ap}
use Rattle.std.specs.Prelude.{decimal}
use Rattle.udfs_salvage.proofs.Putting.{puts_with, puts_same}
use Rattle.udfs_salvage.proofs.lines.put_first.Goals as goal

pub returns : goal.returns
returns g c = puts_with (puts_with (puts_with (puts_same c.form_name.ensures.form c.put.ensures) c.put-2.ensures) (puts_same (ap decimal (c.from.ensures)) c.put_number.ensures)) c.put-3.ensures
