use Rattle.std.proofs.Common.{◌≡◌, length}
use Rattle.udfs_space.specs.Views.{view_by}
use Rattle.udfs_file.specs.Stretches.{cells_of}
use Rattle.udfs_walk.specs.Standings.{missing_blocks}
use Rattle.udfs_walk.proofs.gaps.bare_cells_standing.Given as goal

-- no cell so far is missing
abbrev pub invariant-runs : goal.invariant-runs
invariant-runs g l = g.B.BlockStore.tells → missing_blocks (cells_of (view_by g.B.BlockStore.states l.view) l.body) ≡ missing_blocks l.left

abbrev pub decreases-runs : goal.decreases-runs
decreases-runs g l = length l.left
