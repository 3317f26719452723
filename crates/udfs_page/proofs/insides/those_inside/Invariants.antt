use Rattle.std.proofs.Common.{◌≡◌, ◌++◌, drop, take}
use Rattle.udfs_page.specs.Insides.{inside}
use Rattle.udfs_page.proofs.insides.those_inside.Given as goal

-- those in front are inside, and the others are so or not
abbrev pub invariant-loop-index : goal.invariant-loop-index
invariant-loop-index l = take l.index l.nodes ++ inside l.depth (drop l.index l.nodes) ≡ inside l.depth l.nodes
