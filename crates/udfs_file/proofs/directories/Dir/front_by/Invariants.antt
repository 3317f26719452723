use Rattle.std.proofs.Common.{length}
use Rattle.udfs_space.specs.Views.{view_by}
use Rattle.udfs_file.specs.Stretches.{cells_of}
use Rattle.udfs_file.proofs.FrontLemmas.{IsFronting}
use Rattle.std.proofs.Common.{◌≤◌}
use Rattle.udfs_file.proofs.directories.Dir.front_by.Given as goal

abbrev pub invariant-steps : goal.invariant-steps
invariant-steps g l = record {
  fronting : g.B.BlockStore.tells → IsFronting l.profile (cells_of (view_by g.B.BlockStore.states l.view) l.body) l.cursor l.entries.items;
  few : length l.entries.items ≤ l.most;
}

abbrev pub decreases-steps : goal.decreases-steps
decreases-steps g l = length l.cursor
