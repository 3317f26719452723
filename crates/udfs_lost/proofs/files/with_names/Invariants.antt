use Rattle.std.proofs.Common.{◌≡◌, ◌||◌, take}
use Rattle.std.specs.List.{list_any}
use Rattle.udfs_lattice.specs.Volumes.{Blocks}
use Rattle.udfs_space.specs.Places.{view}
use Rattle.udfs_walk.specs.Targets.{Icb, is_icb}
use Rattle.udfs_walk.specs.UnnamedEntries.{names}
use Rattle.udfs_lost.proofs.files.with_names.Given as goal

abbrev pub invariant-loop-node : goal.invariant-loop-node
invariant-loop-node l = (blocks : Blocks) (icb : Icb) → list_any (is_icb icb) l.met ≡ (list_any (is_icb icb) l.fn.met || list_any (names (view blocks l.space) icb) (take l.node-index l.nodes))
