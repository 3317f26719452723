use Rattle.std.proofs.Common.{length}
use Rattle.udfs_space.specs.Views.{view_now}
use Rattle.udfs_file.proofs.CellLemmas.{IsSettling}
use Rattle.udfs_file.proofs.cells.Cells.settled.Given as goal

abbrev pub invariant-stretches : goal.invariant-stretches
invariant-stretches l = IsSettling (view_now l.self.view) l.self.passed l.self.stretches.now l.passed l.stretches

abbrev pub decreases-stretches : goal.decreases-stretches
decreases-stretches l = length l.stretches
