use Rattle.std.proofs.Common.{ap, ◌++◌}
use Rattle.std.specs.Prelude.{codes, decimal}
use Rattle.udfs_salvage.proofs.Putting.{puts_same, puts_with}
use Rattle.udfs_salvage.proofs.node_lines.put_missing.Goals as goal

pub returns : goal.returns
returns g c = puts_with (puts_same (ap (λ n. codes "missing " ++ decimal n) (c.from.ensures)) c.put_count.ensures) c.put.ensures
