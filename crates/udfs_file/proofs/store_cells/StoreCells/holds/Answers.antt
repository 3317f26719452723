use Rattle.std.proofs.Common.{◌<◌, ◌≤◌, ◌-◌, ◌∙◌, ap, subst, length, nat_le}
use Rattle.udfs_space.specs.Views.{view_by}
use Rattle.udfs_file.specs.Stretches.{cells_of}
use Rattle.udfs_file.proofs.CellLemmas.{held_in, held_behind, held_nowhere, in_first}
use Rattle.udfs_file.proofs.store_cells.StoreCells.holds.Goals as goal

pub returns-in_default : goal.returns-in_default
returns-in_default g c = held_nowhere (view_by g.B.BlockStore.states c.settled-ahead.result.view) c.settled-ahead.result.stretches.now c.settled-ahead.result.passed c.args.count
    c.in_default.ensures.cases ∙ ap (λ cs. nat_le c.args.count (length cs)) c.settled-ahead.ensures.cells

pub returns-then-count-here : goal.returns-then-count-here
returns-then-count-here g c = held_in (view_by g.B.BlockStore.states c.settled-ahead.result.view) c.settled-ahead.result.stretches.now c.in-Some.first.now c.in-Some.rest.now
    c.settled-ahead.result.passed c.args.count c.in-Some.ensures.cases.0
    (in_first c.settled-ahead.result.stretches.now c.in-Some.first.now c.in-Some.rest.now c.settled-ahead.result.passed c.in-Some.ensures.cases.0 c.settled-ahead.ensures.settled)
    (subst (λ n. c.args.count ≤ n - c.settled-ahead.result.passed) c.count.ensures c.if-count-here.true)
    ∙ ap (λ cs. nat_le c.args.count (length cs)) c.settled-ahead.ensures.cells

pub returns : goal.returns
returns g c = c.hold.ensures (view_by g.B.BlockStore.states c.settled-ahead.result.view)
    ∙ ap (λ n. nat_le (c.args.count - (n - c.settled-ahead.result.passed)) (length (cells_of (view_by g.B.BlockStore.states c.settled-ahead.result.view) c.in-Some.rest.now))) c.count.ensures
    ∙ held_behind (view_by g.B.BlockStore.states c.settled-ahead.result.view) c.settled-ahead.result.stretches.now c.in-Some.first.now c.in-Some.rest.now
    c.settled-ahead.result.passed c.args.count c.in-Some.ensures.cases.0
    (in_first c.settled-ahead.result.stretches.now c.in-Some.first.now c.in-Some.rest.now c.settled-ahead.result.passed c.in-Some.ensures.cases.0 c.settled-ahead.ensures.settled)
    (subst (λ n. n - c.settled-ahead.result.passed < c.args.count) c.count.ensures c.if-count-here.false)
    ∙ ap (λ cs. nat_le c.args.count (length cs)) c.settled-ahead.ensures.cells
