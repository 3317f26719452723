use Rattle.std.proofs.Common.{length}
use Rattle.udfs_space.specs.Views.{view_by}
use Rattle.udfs_file.proofs.CellLemmas.{IsSettling}
use Rattle.udfs_file.proofs.store_cells.StoreCells.settled.Given as goal

abbrev pub invariant-stretches : goal.invariant-stretches
invariant-stretches g l = IsSettling (view_by g.B.BlockStore.states l.self.view) l.self.passed l.self.stretches.now l.passed l.stretches

abbrev pub decreases-stretches : goal.decreases-stretches
decreases-stretches g l = length l.stretches
