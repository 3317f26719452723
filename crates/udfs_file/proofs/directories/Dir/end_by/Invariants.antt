use Rattle.std.proofs.Common.{length}
use Rattle.udfs_space.specs.Views.{view_by}
use Rattle.udfs_file.specs.Stretches.{cells_of}
use Rattle.udfs_file.proofs.Ends.{IsEnding}
use Rattle.udfs_file.proofs.directories.Dir.end_by.Given as goal

abbrev pub invariant-steps : goal.invariant-steps
invariant-steps g l = g.B.BlockStore.tells → IsEnding l.profile (cells_of (view_by g.B.BlockStore.states l.view) l.body) l.cursor l.lists

abbrev pub decreases-steps : goal.decreases-steps
decreases-steps g l = length l.cursor
