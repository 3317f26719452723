use Rattle.std.proofs.Common.{◌∙◌, sym, ap, ◌+◌, ◌/◌, ◌%◌, arith, Some}
use Rattle.udfs_space.specs.Views.{view_by}
use Rattle.udfs_file.proofs.KnownCells.{known_place, no_place}
use Rattle.udfs_file.proofs.knowledge.recorded_knowledge.Goals as goal

pub returns-in-None-clause-cells : goal.returns-in-None-clause-cells
returns-in-None-clause-cells g c told = let v = view_by g.B.BlockStore.states c.args.view in
    no_place v c.args.run.address.reference c.args.run.address.block c.args.at c.min-here.result (omega (arith, c.min-here.ensures))
    (sym c.in-None.is ∙ c.knowledge_behind.ensures.value told)

pub returns-in-Some-default-Known-clause-cells : goal.returns-in-Some-default-Known-clause-cells
returns-in-Some-default-Known-clause-cells g c told = let v = view_by g.B.BlockStore.states c.args.view in
    known_place v c.args.run.address.reference c.args.run.address.block c.args.at c.min-here.result c.in-Some-default-Known.field-0-0 (omega (arith, c.min-here.ensures))
    (ap (λ f. Some (c.in-Some-default-Known.field-0-0, f)) (sym c.in-Some-default-Known.field-0-1-is) ∙ sym c.in-Some-default-Known.is ∙ c.knowledge_behind.ensures.value told)
