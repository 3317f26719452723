use Rattle.std.proofs.Common.{◌∙◌}
use Rattle.udfs_space.specs.Views.{view_now}
use Rattle.udfs_file.specs.CellsLeft.{cells_left}
use Rattle.udfs_file.proofs.CellLemmas.{in_first}
use Rattle.udfs_file.proofs.PortionCells.{first_portion, none_left, shorter}
use Rattle.udfs_file.proofs.portions.PortionsIterator.next.Goals as goal

pub returns-in_default-clause-steps : goal.returns-in_default-clause-steps
returns-in_default-clause-steps c = let none = none_left (view_now c.settled-ahead.result.view) c.settled-ahead.result.stretches.now
    c.settled-ahead.result.passed c.args.self.now c.in_default.ensures.cases (c.settled-ahead.ensures.cells ∙ c.self.view_is) in (none, none)

pub returns-clause-steps : goal.returns-clause-steps
returns-clause-steps c = first_portion (view_now c.settled-ahead.result.view) c.settled-ahead.result.stretches.now c.in-Some.first.now c.in-Some.field-0-1.now
    c.settled-ahead.result.passed c.count.result c.stretch_portion-portion.result c.args.self.now (cells_left c.behind-self-inside.result) c.in-Some.ensures.cases.0
    (in_first c.settled-ahead.result.stretches.now c.in-Some.first.now c.in-Some.field-0-1.now c.settled-ahead.result.passed c.in-Some.ensures.cases.0 c.settled-ahead.ensures.settled)
    c.count.ensures c.stretch_portion-portion.ensures.cells c.stretch_portion-portion.ensures.some c.stretch_portion-portion.ensures.most
    (c.settled-ahead.ensures.cells ∙ c.self.view_is) c.behind-self-inside.ensures.cells

pub returns-clause-goes : goal.returns-clause-goes
returns-clause-goes c = let less = shorter c.stretch_portion-portion.result c.args.self.now (cells_left c.behind-self-inside.result) (returns-clause-steps c) in
    record { on = λ f. (tt, tt, less); keeps = tt; rests = λ f. tt }
