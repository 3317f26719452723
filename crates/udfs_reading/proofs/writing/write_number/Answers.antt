use Rattle.std.proofs.Common.{ℕ, List, subst}
use Rattle.udfs_reading.specs.Writing.{Passes}
use Rattle.udfs_reading.specs.Format.{number}
use Rattle.udfs_reading.proofs.writing.write_number.Goals as goal

pub returns : goal.returns
unfolding number
returns g c =
    subst (λ (l : List ℕ). Passes (g.W.Sink.stream c.args.sink.now) (g.W.Sink.stream c.push-outcome.new.sink) c.args.out.now c.push-outcome.new.self l c.push-outcome.result)
    c.write_u32.ensures c.push-outcome.ensures
