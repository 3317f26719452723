use Rattle.std.proofs.Common.{ap, ◌∙◌, ◌++◌}
use Rattle.std.specs.Prelude.{codes, decimal}
use Rattle.udfs_salvage.proofs.Putting.{puts_with, puts_same}
use Rattle.udfs_salvage.proofs.lines.put_fault.Goals as goal

pub returns : goal.returns
returns g c = puts_with (puts_with (puts_with (puts_same (ap (λ n. codes "volume fault " ++ decimal n) (c.from.ensures ∙ c.fault_number.ensures)) c.put_count.ensures) c.put.ensures) (puts_same c.name.ensures.name c.put-2.ensures)) c.put-3.ensures
