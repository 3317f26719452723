use Rattle.std.proofs.Common.{◌≡◌, take}
use Rattle.std.specs.List.{list_any}
use Rattle.udfs_lattice.specs.Volumes.{Blocks}
use Rattle.udfs_space.specs.Places.{view}
use Rattle.udfs_walk.specs.Targets.{Icb, is_icb}
use Rattle.udfs_lost.specs.LostFiles.{is_named_in}
use Rattle.udfs_lost.proofs.files.named_in.Given as goal

abbrev pub invariant-loop-tree : goal.invariant-loop-tree
invariant-loop-tree l = (blocks : Blocks) (icb : Icb) → list_any (is_icb icb) l.met ≡ is_named_in (view blocks l.space) (take l.tree-index l.trees) icb
