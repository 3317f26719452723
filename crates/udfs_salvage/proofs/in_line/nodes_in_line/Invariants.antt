-- The nodes so far that are in line, and those of what is left.
use Rattle.std.proofs.Common.{◌≡◌, ◌++◌, Bor, ℕ, List, map}
use Rattle.std.specs.Vec.Iter.{into_iter_items}
use Rattle.udfs_walk.specs.KnownLaws.{taken}
use Rattle.udfs_salvage.specs.InLine.{is_in_line}
use Rattle.udfs_salvage.proofs.in_line.nodes_in_line.Given as goal

abbrev pub invariant-loop-node : goal.invariant-loop-node
invariant-loop-node l = l.kept.items ++ taken (is_in_line (map (λ (word : Bor (List ℕ)). word.now) l.fn.only)) (into_iter_items l.node-iterator) ≡ taken (is_in_line (map (λ (word : Bor (List ℕ)). word.now) l.fn.only)) l.fn.nodes.items
