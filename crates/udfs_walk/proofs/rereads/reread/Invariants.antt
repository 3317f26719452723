use Rattle.std.proofs.Common.{◌≡◌, take}
use Rattle.std.specs.Prelude.{flat_map}
use Rattle.udfs_walk.specs.Rereads.{missing_of}
use Rattle.udfs_walk.proofs.rereads.reread.Given as goal

abbrev pub invariant-loop-node : goal.invariant-loop-node
invariant-loop-node l = l.blocks.items ≡ flat_map (λ n. missing_of n.standing) (take l.node-index l.nodes)
