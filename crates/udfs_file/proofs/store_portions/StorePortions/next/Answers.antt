use Rattle.std.proofs.Common.{◌∙◌, ap, length}
use Rattle.udfs_space.specs.Views.{view_by}
use Rattle.udfs_file.specs.Portions.{portion_count}
use Rattle.udfs_file.specs.StoreCells.{store_left}
use Rattle.udfs_file.proofs.CellLemmas.{in_first}
use Rattle.udfs_file.proofs.PortionCells.{counted, first_portion, none_left}
use Rattle.udfs_file.proofs.store_portions.StorePortions.next.Goals as goal

pub returns-in_default-clause-gives : goal.returns-in_default-clause-gives
returns-in_default-clause-gives g c told = let none = none_left (view_by g.B.BlockStore.states c.settled-ahead.result.view) c.settled-ahead.result.stretches.now
    c.settled-ahead.result.passed c.args.self.now c.in_default.ensures.cases (c.settled-ahead.ensures.cells ∙ c.self.view_is) in (none, none)

pub returns-in_default-clause-count : goal.returns-in_default-clause-count
returns-in_default-clause-count g c = let none = ap length (none_left (view_by g.B.BlockStore.states c.settled-ahead.result.view) c.settled-ahead.result.stretches.now
    c.settled-ahead.result.passed c.args.self.now c.in_default.ensures.cases (c.settled-ahead.ensures.cells ∙ c.self.view_is)) in (none, none)

pub returns-clause-gives : goal.returns-clause-gives
returns-clause-gives g c told = first_portion (view_by g.B.BlockStore.states c.settled-ahead.result.view) c.settled-ahead.result.stretches.now c.in-Some.first.now c.in-Some.field-0-1.now
    c.settled-ahead.result.passed c.count.result c.in_ok-portion.portion c.args.self.now (store_left g.B.BlockStore.states c.behind-self-inside.result) c.in-Some.ensures.cases.0
    (in_first c.settled-ahead.result.stretches.now c.in-Some.first.now c.in-Some.field-0-1.now c.settled-ahead.result.passed c.in-Some.ensures.cases.0 c.settled-ahead.ensures.settled)
    c.count.ensures (c.in_ok-portion.ensures.cells told) c.in_ok-portion.ensures.some c.in_ok-portion.ensures.most
    (c.settled-ahead.ensures.cells ∙ c.self.view_is) c.behind-self-inside.ensures.cells

pub returns-clause-count : goal.returns-clause-count
returns-clause-count g c = (
  c.in_ok-portion.ensures.some,
  counted (view_by g.B.BlockStore.states c.settled-ahead.result.view) c.settled-ahead.result.stretches.now c.in-Some.first.now c.in-Some.field-0-1.now
      c.settled-ahead.result.passed c.count.result (portion_count c.in_ok-portion.portion) c.args.self.now (store_left g.B.BlockStore.states c.behind-self-inside.result) c.in-Some.ensures.cases.0
      (in_first c.settled-ahead.result.stretches.now c.in-Some.first.now c.in-Some.field-0-1.now c.settled-ahead.result.passed c.in-Some.ensures.cases.0 c.settled-ahead.ensures.settled)
      c.count.ensures c.in_ok-portion.ensures.most
      (c.settled-ahead.ensures.cells ∙ c.self.view_is) c.behind-self-inside.ensures.cells,
)
