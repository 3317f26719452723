use Rattle.std.proofs.Common.{◌≡◌, ◌+◌, length}
use Rattle.udfs_space.specs.Views.{view_by}
use Rattle.udfs_file.specs.Stretches.{cells_of}
use Rattle.udfs_walk.specs.Gaps.{Leaves}
use Rattle.udfs_walk.proofs.gaps.cells_standing.Given as goal

abbrev pub invariant-runs : goal.invariant-runs
invariant-runs g l = record {
  leaves : g.B.BlockStore.tells → Leaves (cells_of (view_by g.B.BlockStore.states l.view) l.body) l.left l.initial.gaps l.gaps;
  place : l.gaps.start + l.gaps.grown + length l.left ≡ length (cells_of (view_by g.B.BlockStore.states l.view) l.body);
}

abbrev pub decreases-runs : goal.decreases-runs
decreases-runs g l = length l.left
