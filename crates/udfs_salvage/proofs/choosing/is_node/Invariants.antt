-- What is left decides.
use Rattle.std.proofs.Common.{◌≡◌, drop}
use Rattle.udfs_salvage.specs.Choosing.{is_node}
use Rattle.udfs_salvage.proofs.choosing.is_node.Given as goal

abbrev pub invariant-loop-node : goal.invariant-loop-node
invariant-loop-node l = is_node (drop l.node-index l.nodes) l.word ≡ is_node l.nodes l.word
