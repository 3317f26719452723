use Rattle.std.proofs.Common.{◌≡◌, map, take}
use Rattle.std.specs.Prelude.{filter}
use Rattle.udfs_space.specs.Views.{view_by}
use Rattle.udfs_lost.specs.LostFiles.{is_lost_file}
use Rattle.udfs_lost.proofs.files.lost_files_by.Given as goal

abbrev pub invariant-loop-entry : goal.invariant-loop-entry
invariant-loop-entry g l = g.B.BlockStore.tells → map (λ file. file.now) l.files.items ≡ filter (is_lost_file (view_by g.B.BlockStore.states l.view) l.deleted l.trees) (take l.entry-index l.entries)
