use Rattle.std.proofs.Common.{ℕ, List, ◌∙◌, sym, subst}
use Rattle.udfs_reading.specs.Writing.{Passed}
use Rattle.udfs_reading.proofs.WritingLemmas.{passed_none}
use Rattle.udfs_index.specs.Copying.{CopiesPast}
use Rattle.udfs_index.proofs.PackLemmas.{no_packet, one_packet}
use Rattle.udfs_index.proofs.packing.write_some.Goals as goal

pub returns-then-says-clause-bytes : goal.returns-then-says-clause-bytes
returns-then-says-clause-bytes g c wholes t told shown =
    subst (λ (l : List ℕ). CopiesPast (g.W.Sink.stream c.args.sink.now) (g.W.Sink.stream c.write_packet.new.sink) c.args.out.now c.write_packet.new.out l c.write_packet.result)
    (one_packet t c.args.index (sym c.if-says.true ∙ c.says.ensures wholes t shown))
    (c.write_packet.ensures.bytes wholes t told shown)

pub returns-else-says-clause-bytes : goal.returns-else-says-clause-bytes
returns-else-says-clause-bytes g c wholes t told shown =
    subst (Passed _ _ _ _) (sym (no_packet t c.args.index (sym c.if-says.false ∙ c.says.ensures wholes t shown))) (passed_none _ _)
