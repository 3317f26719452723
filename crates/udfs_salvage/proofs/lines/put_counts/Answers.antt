use Rattle.std.proofs.Common.{ap, ◌∙◌, ◌++◌}
use Rattle.std.specs.Prelude.{codes, decimal}
use Rattle.udfs_salvage.proofs.Putting.{puts_same, puts_with}
use Rattle.udfs_salvage.proofs.lines.put_counts.Goals as goal

pub returns : goal.returns
returns g c told t holds = puts_with (puts_with (puts_with (puts_same (ap (λ n. codes "known " ++ decimal n) (c.from.ensures ∙ c.known.ensures told t holds)) c.put_count.ensures) c.put.ensures) (puts_same (ap decimal (c.from-2.ensures ∙ c.conflicts.ensures told t holds)) c.put_number.ensures)) c.put-2.ensures
