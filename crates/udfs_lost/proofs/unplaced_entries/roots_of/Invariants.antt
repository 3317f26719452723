use Rattle.std.proofs.Common.{◌≡◌, take}
use Rattle.std.specs.List.{list_any}
use Rattle.udfs_walk.specs.Targets.{Icb, is_icb}
use Rattle.udfs_lost.specs.declared.trees.LostTree.{LostTree}
use Rattle.udfs_lost.proofs.unplaced_entries.roots_of.Given as goal

abbrev pub invariant-loop-tree : goal.invariant-loop-tree
invariant-loop-tree l = (icb : Icb) → list_any (is_icb icb) l.roots ≡ list_any (λ (t : LostTree). is_icb icb t.folder) (take l.tree-index l.trees)
