use Rattle.std.proofs.Common.{ap, ◌++◌}
use Rattle.std.specs.Prelude.{codes, decimal}
use Rattle.udfs_salvage.proofs.Putting.{puts_with, puts_same}
use Rattle.udfs_salvage.proofs.lines.put_reread.Goals as goal

pub returns : goal.returns
returns g c told = puts_with (puts_with (puts_same (ap (λ n. codes "reread " ++ decimal n) (c.from.ensures)) c.put_count.ensures) (puts_same (c.state_name.ensures.state told) c.put.ensures)) c.put-2.ensures
