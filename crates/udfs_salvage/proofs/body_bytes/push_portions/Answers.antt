use Rattle.std.proofs.Common.{Bool, Ok, ap, subst}
use Rattle.std.specs.Prelude.{⊤}
use Rattle.udfs_space.specs.Views.{view_by}
use Rattle.udfs_file.specs.Stretches.{cells_of}
use Rattle.udfs_salvage.specs.Extraction.{filled}
use Rattle.udfs_salvage.specs.StoreExtraction.{PushesNext}
use Rattle.udfs_salvage.proofs.Pieces.{pushed_all, pushed_more, pushed_stops, taken_none}
use Rattle.udfs_salvage.proofs.body_bytes.push_portions.Goals as goal

pub portions-init : goal.portions-init
portions-init g c tells = taken_none _ _ _ _ (ap (filled c.args.fill) c.portions_by-portions.ensures)

pub portions-preserved : goal.portions-preserved
portions-preserved g c tells =
    let W = g.W.Sink in
    let step = subst (λ (more : Bool). PushesNext (W.stream c.portions.sink) (W.stream c.push_next.new.sink) c.portions.out c.push_next.new.out c.args.fill c.portions.portions c.push_next.new.portions (Ok more)) c.in-Ok-true.field-0-test (c.in-Ok-true.ensures.step tells) in
    pushed_more c.args.fill _ _ _ _ _ _ _ c.portions.portions c.push_next.new.portions (c.portions.invariant tells) step

pub returns-in-Ok-false-clause-passes : goal.returns-in-Ok-false-clause-passes
returns-in-Ok-false-clause-passes g c tells =
    let W = g.W.Sink in
    let step = subst (λ (more : Bool). PushesNext (W.stream c.portions.sink) (W.stream c.push_next.new.sink) c.portions.out c.push_next.new.out c.args.fill c.portions.portions c.push_next.new.portions (Ok more)) c.in-Ok-false.field-0-test (c.in-Ok-false.ensures.step tells) in
    pushed_all c.args.fill _ _ _ _ _ _ _ c.portions.portions c.push_next.new.portions (c.portions.invariant tells) step

pub returns-in-Err-clause-passes : goal.returns-in-Err-clause-passes
returns-in-Err-clause-passes g c tells =
    pushed_stops ⊤ c.args.fill _ _ _ _ _ c.push_next.new.out (filled c.args.fill (cells_of (view_by g.B.BlockStore.states c.args.view) c.args.body.now)) c.portions.portions c.push_next.new.portions c.in-Err.fault (c.portions.invariant tells) (c.in-Err.ensures.step tells)
