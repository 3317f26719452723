use Rattle.std.proofs.Common.{take}
use Rattle.udfs_lattice.specs.Volumes.{Blocks}
use Rattle.udfs_space.specs.Places.{view}
use Rattle.udfs_walk.specs.NamedKeys.{AreNamed}
use Rattle.udfs_walk.proofs.unnamed_entries.named.Given as goal

abbrev pub invariant-loop-node : goal.invariant-loop-node
invariant-loop-node l = (blocks : Blocks) → AreNamed (view blocks l.space) (take l.node-index l.nodes) l.keys.items
