use Rattle.std.proofs.Common.{◌≡◌, ◌||◌, take}
use Rattle.std.specs.List.{list_any}
use Rattle.udfs_space.specs.Views.{view_by}
use Rattle.udfs_walk.specs.Targets.{Icb, is_icb}
use Rattle.udfs_lost.specs.FoundNames.{is_found_at}
use Rattle.udfs_lost.proofs.named_entries.with_folders.Given as goal

abbrev pub invariant-loop-folder : goal.invariant-loop-folder
invariant-loop-folder g l = g.B.BlockStore.tells → (icb : Icb) → list_any (is_icb icb) l.met
    ≡ (list_any (is_icb icb) l.fn.met || list_any (λ folder. is_found_at (view_by g.B.BlockStore.states l.view) l.lost icb folder.now) (take l.folder-index l.folders))
