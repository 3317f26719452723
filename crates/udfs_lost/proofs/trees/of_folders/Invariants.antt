use Rattle.std.proofs.Common.{◌≡◌, length}
use Rattle.std.specs.Vec.Iter.{into_iter_items}
use Rattle.udfs_lost.proofs.TreeLemmas.{AreFirst}
use Rattle.udfs_lost.proofs.trees.of_folders.Given as goal

-- the trees so far have the first folders and the first nodes
abbrev pub invariant-loop-nodes : goal.invariant-loop-nodes
invariant-loop-nodes l = length l.fn.forest.items ≡ length l.folders → AreFirst l.folders l.fn.forest.items (into_iter_items l.nodes-iterator) l.trees.items
