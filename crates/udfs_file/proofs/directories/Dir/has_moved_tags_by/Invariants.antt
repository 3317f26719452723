use Rattle.std.proofs.Common.{length}
use Rattle.udfs_space.specs.Views.{view_by}
use Rattle.udfs_file.specs.Stretches.{cells_of}
use Rattle.udfs_file.proofs.MovedTags.{GoTogether}
use Rattle.udfs_file.proofs.directories.Dir.has_moved_tags_by.Given as goal

abbrev pub invariant-steps : goal.invariant-steps
invariant-steps g l = g.B.BlockStore.tells → GoTogether (cells_of (view_by g.B.BlockStore.states l.view) l.body) l.wide l.strict

abbrev pub decreases-steps : goal.decreases-steps
decreases-steps g l = length l.wide
