use Rattle.std.proofs.Common.{ap}
use Rattle.std.specs.Prelude.{decimal}
use Rattle.udfs_salvage.proofs.Putting.{puts_same, puts_with}
use Rattle.udfs_salvage.proofs.node_lines.put_two_place.Goals as goal

pub returns : goal.returns
returns g c = puts_with (puts_with (puts_same (ap decimal (c.from.ensures)) c.put_number.ensures) c.put.ensures) (puts_same (ap decimal (c.from-2.ensures)) c.put_number-2.ensures)
