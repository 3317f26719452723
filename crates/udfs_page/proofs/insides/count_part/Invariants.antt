use Rattle.std.proofs.Common.{◌≡◌, take}
use Rattle.udfs_page.specs.Insides.{count_part}
use Rattle.udfs_page.proofs.insides.count_part.Given as goal

-- those so far
abbrev pub invariant-loop-node : goal.invariant-loop-node
invariant-loop-node l = l.count ≡ count_part l.part (take l.node-index l.nodes)
