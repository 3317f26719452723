use Rattle.std.proofs.Common.{◌≤◌, ◌-◌, ap, subst, arith}
use Rattle.udfs_space.specs.Views.{view_by}
use Rattle.udfs_file.proofs.CellLemmas.{settle_on}
use Rattle.udfs_file.proofs.store_cells.StoreCells.settled.Goals as goal

pub stretches-preserved : goal.stretches-preserved
stretches-preserved g c = settle_on (view_by g.B.BlockStore.states c.args.self.now.view) c.args.self.now.passed c.args.self.now.stretches.now c.stretches.passed c.stretches.stretches.now
    c.in-Some.first.now c.in-Some.rest.now _ c.stretches.invariant c.in-Some.ensures.cases.0 (subst (λ n. n ≤ c.stretches.passed) c.count.ensures (omega arith)) (ap (λ n. c.stretches.passed - n) c.count-passed.ensures)
