use Rattle.std.proofs.Common.{Err, subst}
use Rattle.std.specs.Prelude.{⊤}
use Rattle.udfs_salvage.specs.Extraction.{filled}
use Rattle.udfs_salvage.specs.StoreExtraction.{StoreExtracts}
use Rattle.udfs_salvage.specs.declared.extraction.ExtractError.TheVariants.{NotWhole}
use Rattle.udfs_salvage.specs.declared.extraction.StoreExtractError.{StoreExtractError}
use Rattle.udfs_salvage.proofs.Extracting.{errors_none, errors_same}
use Rattle.udfs_salvage.proofs.listed_extraction.write_lost.Goals as goal

pub returns-in-Ok-clause-cells : goal.returns-in-Ok-clause-cells
returns-in-Ok-clause-cells g c = c.in-Ok.ensures.cells tt

pub returns-in-Ok-clause-not_whole : goal.returns-in-Ok-clause-not_whole
returns-in-Ok-clause-not_whole g c = λ profile last u is are at. errors_none _ _ _ NotWhole (c.in-Ok.ensures.not_whole tt profile last u is are at)

pub returns-in-Err-Extract-clause-cells : goal.returns-in-Err-Extract-clause-cells
returns-in-Err-Extract-clause-cells g c = λ profile last u is are at lost.
    let W = g.W.Sink in
    let k = c.in-Err-Extract.ensures.cells tt profile last u is are at lost in
    (k.0, k.1, subst (λ (e : StoreExtractError). StoreExtracts {X = ⊤} (W.stream c.args.sink.now) (W.stream c.write_lost_by.new.sink) (filled 0 k.0) (Err e)) c.in-Err-Extract.field-0-is k.2)

pub returns-in-Err-Extract-clause-not_whole : goal.returns-in-Err-Extract-clause-not_whole
returns-in-Err-Extract-clause-not_whole g c = λ profile last u is are at. errors_same _ c.in-Err-Extract.field-0 c.in-Err-Extract.error NotWhole c.in-Err-Extract.field-0-is (c.in-Err-Extract.ensures.not_whole tt profile last u is are at)
