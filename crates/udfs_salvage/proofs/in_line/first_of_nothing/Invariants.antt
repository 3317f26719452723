-- No word so far names nothing.
use Rattle.std.proofs.Common.{◌≡◌, ◌<◌, Bor, ℕ, List, Some, map, slice_get, false}
use Rattle.udfs_salvage.specs.InLine.{names_nothing}
use Rattle.udfs_salvage.proofs.in_line.first_of_nothing.Given as goal

abbrev pub invariant-loop-index : goal.invariant-loop-index
invariant-loop-index l =
    (k : ℕ) (word : List ℕ) → k < l.index → slice_get (map (λ (word : Bor (List ℕ)). word.now) l.only) k ≡ Some word → names_nothing l.nodes word ≡ false
