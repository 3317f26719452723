-- Each word so far is the path of a node.
use Rattle.std.proofs.Common.{◌≡◌, ◌<◌, Bor, ℕ, List, Some, map, slice_get, true}
use Rattle.udfs_salvage.specs.Choosing.{is_node}
use Rattle.udfs_extraction.proofs.choosing.all_are_nodes.Given as goal

abbrev pub invariant-loop-index : goal.invariant-loop-index
invariant-loop-index l =
    (k : ℕ) (word : List ℕ) → k < l.index → slice_get (map (λ (word : Bor (List ℕ)). word.now) l.only) k ≡ Some word → is_node l.nodes word ≡ true
