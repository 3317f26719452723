use Rattle.std.proofs.Common.{◌<◌, ◌-◌, ◌∙◌, ap, subst, drop}
use Rattle.udfs_space.specs.Views.{view_by}
use Rattle.udfs_file.proofs.CellLemmas.{behind_in, behind_none, in_first, starts_in, starts_none}
use Rattle.udfs_file.proofs.store_cells.StoreCells.behind.Goals as goal

pub returns-in_default-clause-cells : goal.returns-in_default-clause-cells
returns-in_default-clause-cells g c = behind_none (view_by g.B.BlockStore.states c.settled-ahead.result.view) c.settled-ahead.result.stretches.now c.settled-ahead.result.passed c.args.count
    c.in_default.ensures.cases ∙ ap (drop c.args.count) c.settled-ahead.ensures.cells

pub returns-clause-cells : goal.returns-clause-cells
returns-clause-cells g c = behind_in (view_by g.B.BlockStore.states c.settled-ahead.result.view) c.settled-ahead.result.stretches.now c.in-Some.first.now c.in-Some.rest.now
    c.settled-ahead.result.passed c.args.count _ c.in-Some.ensures.cases.0
    (in_first c.settled-ahead.result.stretches.now c.in-Some.first.now c.in-Some.rest.now c.settled-ahead.result.passed c.in-Some.ensures.cases.0 c.settled-ahead.ensures.settled)
    (subst (λ n. n - c.settled-ahead.result.passed < c.args.count) c.count.ensures c.if-count-here.false)
    (ap (λ n. c.args.count - (n - c.settled-ahead.result.passed)) c.count.ensures)
    ∙ ap (drop c.args.count) c.settled-ahead.ensures.cells

pub returns-in_default-clause-starts : goal.returns-in_default-clause-starts
returns-in_default-clause-starts g c = λ s. starts_none c.settled-ahead.result.stretches.now c.settled-ahead.result.passed c.in_default.ensures.cases

pub returns-then-count-here-clause-starts : goal.returns-then-count-here-clause-starts
returns-then-count-here-clause-starts g c = λ s. c.settled-ahead.ensures.starts c.args.count s

pub returns-clause-starts : goal.returns-clause-starts
returns-clause-starts g c = λ s. starts_in c.settled-ahead.result.stretches.now c.in-Some.first.now c.in-Some.rest.now c.settled-ahead.result.passed c.args.count _ c.in-Some.ensures.cases.0
    (in_first c.settled-ahead.result.stretches.now c.in-Some.first.now c.in-Some.rest.now c.settled-ahead.result.passed c.in-Some.ensures.cases.0 c.settled-ahead.ensures.settled)
    (subst (λ n. n - c.settled-ahead.result.passed < c.args.count) c.count.ensures c.if-count-here.false)
    (ap (λ n. c.args.count - (n - c.settled-ahead.result.passed)) c.count.ensures)
    (c.settled-ahead.ensures.starts c.args.count s)
