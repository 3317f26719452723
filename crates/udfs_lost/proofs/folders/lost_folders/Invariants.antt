use Rattle.std.proofs.Common.{◌≡◌, map, take}
use Rattle.std.specs.Prelude.{filter}
use Rattle.udfs_space.specs.Views.{view_by}
use Rattle.udfs_lost.specs.Folders.{icb_of_entry, is_lost_folder}
use Rattle.udfs_lost.proofs.folders.lost_folders.Given as goal

abbrev pub invariant-loop-entry : goal.invariant-loop-entry
invariant-loop-entry g l = g.B.BlockStore.tells → l.folders.items ≡ map icb_of_entry (filter (is_lost_folder (view_by g.B.BlockStore.states l.view) l.deleted) (take l.entry-index l.entries))
