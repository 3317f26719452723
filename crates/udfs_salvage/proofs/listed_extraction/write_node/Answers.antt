use Rattle.std.proofs.Common.{Err, subst}
use Rattle.std.specs.Prelude.{⊤}
use Rattle.udfs_lattice.specs.Tables.{state_of}
use Rattle.udfs_salvage.specs.Extraction.{fill_byte, filled}
use Rattle.udfs_salvage.specs.StoreExtraction.{StoreExtracts}
use Rattle.udfs_salvage.specs.TreeReports.{FillsFileBy, WritesFileBy}
use Rattle.udfs_salvage.specs.declared.extraction.ExtractError.TheVariants.{NotWhole, OutOfMemory}
use Rattle.udfs_salvage.specs.declared.extraction.StoreExtractError.{StoreExtractError}
use Rattle.udfs_salvage.proofs.Extracting.{error_up, errors_none, errors_same}
use Rattle.udfs_salvage.proofs.listed_extraction.write_node.Goals as goal

pub returns-in-Ok-clause-cells : goal.returns-in-Ok-clause-cells
returns-in-Ok-clause-cells g c = c.in-Ok.ensures.cells tt

pub returns-in-Ok-clause-not_whole : goal.returns-in-Ok-clause-not_whole
returns-in-Ok-clause-not_whole g c = λ profile last n is at. errors_none _ _ _ NotWhole (c.in-Ok.ensures.not_whole tt profile last n is at)

pub returns-in-Ok-clause-walked : goal.returns-in-Ok-clause-walked
returns-in-Ok-clause-walked g c = c.in-Ok.ensures.walked tt

pub returns-in-Ok-clause-unfit : goal.returns-in-Ok-clause-unfit
returns-in-Ok-clause-unfit g c = λ f root n is at. errors_none _ _ _ NotWhole (c.in-Ok.ensures.unfit tt f root n is at)

pub returns-in-Ok-clause-tree : goal.returns-in-Ok-clause-tree
returns-in-Ok-clause-tree g c = c.in-Ok.ensures.tree tt

pub returns-in-Ok-clause-filled : goal.returns-in-Ok-clause-filled
returns-in-Ok-clause-filled g c = c.in-Ok.ensures.filled tt

pub returns-in-Err-Extract-clause-cells : goal.returns-in-Err-Extract-clause-cells
returns-in-Err-Extract-clause-cells g c = λ profile last n is at offered.
    let W = g.W.Sink in
    let k = c.in-Err-Extract.ensures.cells tt profile last n is at offered in
    (k.0, k.1, subst (λ (e : StoreExtractError). StoreExtracts {X = ⊤} (W.stream c.args.sink.now) (W.stream c.write_node_by.new.sink) (filled (fill_byte c.args.fill) k.0) (Err e)) c.in-Err-Extract.field-0-is k.2)

pub returns-in-Err-Extract-clause-walked : goal.returns-in-Err-Extract-clause-walked
returns-in-Err-Extract-clause-walked g c = λ f root n is at offered.
    let W = g.W.Sink in
    let k = c.in-Err-Extract.ensures.walked tt f root n is at offered in
    (k.0, k.1, subst (λ (e : StoreExtractError). StoreExtracts {X = ⊤} (W.stream c.args.sink.now) (W.stream c.write_node_by.new.sink) (filled (fill_byte c.args.fill) k.0) (Err e)) c.in-Err-Extract.field-0-is k.2)

pub returns-in-Err-Extract-clause-not_whole : goal.returns-in-Err-Extract-clause-not_whole
returns-in-Err-Extract-clause-not_whole g c = λ profile last n is at. errors_same _ c.in-Err-Extract.field-0 c.in-Err-Extract.error NotWhole c.in-Err-Extract.field-0-is (c.in-Err-Extract.ensures.not_whole tt profile last n is at)

pub returns-in-Err-Extract-clause-unfit : goal.returns-in-Err-Extract-clause-unfit
returns-in-Err-Extract-clause-unfit g c = λ f root n is at. errors_same _ c.in-Err-Extract.field-0 c.in-Err-Extract.error NotWhole c.in-Err-Extract.field-0-is (c.in-Err-Extract.ensures.unfit tt f root n is at)

pub returns-in-Err-Extract-clause-tree : goal.returns-in-Err-Extract-clause-tree
returns-in-Err-Extract-clause-tree g c = λ profile last n is at whole.
    let W = g.W.Sink in
    subst (λ (e : StoreExtractError). WritesFileBy profile (state_of c.args.listing.now.table.now) last n (λ bytes. StoreExtracts {X = ⊤} (W.stream c.args.sink.now) (W.stream c.write_node_by.new.sink) bytes (Err e))) c.in-Err-Extract.field-0-is
    (c.in-Err-Extract.ensures.tree tt profile last n is at whole)

pub returns-in-Err-Extract-clause-filled : goal.returns-in-Err-Extract-clause-filled
returns-in-Err-Extract-clause-filled g c = λ profile last n is at offered.
    let W = g.W.Sink in
    subst (λ (e : StoreExtractError). FillsFileBy profile (state_of c.args.listing.now.table.now) last n (fill_byte c.args.fill) (λ bytes. StoreExtracts {X = ⊤} (W.stream c.args.sink.now) (W.stream c.write_node_by.new.sink) bytes (Err e))) c.in-Err-Extract.field-0-is
    (c.in-Err-Extract.ensures.filled tt profile last n is at offered)

pub returns-in-Err-Extract-clause-wanted : goal.returns-in-Err-Extract-clause-wanted
returns-in-Err-Extract-clause-wanted g c = λ f n opens at refused. c.in-Err-Extract.ensures.wanted tt f n opens at (error_up c.in-Err-Extract.field-0 c.in-Err-Extract.error OutOfMemory c.in-Err-Extract.field-0-is refused)
