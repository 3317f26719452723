use Rattle.std.proofs.Common.{◌≡◌, ◌||◌, take}
use Rattle.std.specs.List.{list_any}
use Rattle.udfs_space.specs.Views.{view_by}
use Rattle.udfs_walk.specs.Targets.{Icb, is_icb}
use Rattle.udfs_lost.specs.FoundNames.{is_found_among}
use Rattle.udfs_lost.specs.declared.trees.LostTree.{LostTree}
use Rattle.udfs_lost.proofs.named_entries.found_entries.Given as goal

abbrev pub invariant-loop-tree : goal.invariant-loop-tree
invariant-loop-tree g l = let v = view_by g.B.BlockStore.states l.view in
    g.B.BlockStore.tells → (icb : Icb) → list_any (is_icb icb) l.met ≡ (is_found_among v l.lost icb l.nodes || list_any (λ (t : LostTree). is_found_among v l.lost icb t.nodes.items) (take l.tree-index l.trees))
