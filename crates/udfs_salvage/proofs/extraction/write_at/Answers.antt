use Rattle.std.proofs.Common.{Err, subst}
use Rattle.std.specs.Prelude.{⊤}
use Rattle.udfs_salvage.specs.Extraction.{filled}
use Rattle.udfs_salvage.specs.StoreExtraction.{StoreExtracts}
use Rattle.udfs_salvage.specs.declared.extraction.StoreExtractError.{StoreExtractError}
use Rattle.udfs_salvage.proofs.extraction.write_at.Goals as goal

pub returns-in-Ok-clause-cells : goal.returns-in-Ok-clause-cells
returns-in-Ok-clause-cells g c = λ cs has. c.in-Ok.ensures.cells tt cs has

pub returns-in-Err-Extract-clause-cells : goal.returns-in-Err-Extract-clause-cells
returns-in-Err-Extract-clause-cells g c = λ cs has.
    let W = g.W.Sink in
    subst (λ (e : StoreExtractError). StoreExtracts {X = ⊤} (W.stream c.args.sink.now) (W.stream c.write_at_by.new.sink) (filled c.args.fill cs) (Err e)) c.in-Err-Extract.field-0-is (c.in-Err-Extract.ensures.cells tt cs has)
