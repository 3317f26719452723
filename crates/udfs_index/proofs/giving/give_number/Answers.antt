use Rattle.std.proofs.Common.{ap, take, drop, ◌∙◌}
use Rattle.udfs_reading.specs.Format.{number}
use Rattle.udfs_index.proofs.giving.give_number.Goals as goal

pub returns-clause-value : goal.returns-clause-value
unfolding number
returns-clause-value c = c.give.ensures.value ∙ ap (λ l. take c.give.result (drop c.args.skip l)) c.write_u32.ensures
