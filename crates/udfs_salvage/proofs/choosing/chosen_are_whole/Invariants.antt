-- What is left decides.
use Rattle.std.proofs.Common.{◌≡◌, Bor, ℕ, List, drop, map}
use Rattle.std.specs.List.{list_all}
use Rattle.udfs_walk.specs.NodeFields.{NodeFields}
use Rattle.udfs_walk.specs.Unsettled.{is_whole}
use Rattle.udfs_salvage.specs.Choosing.{chosen}
use Rattle.udfs_salvage.proofs.choosing.chosen_are_whole.Given as goal

abbrev pub invariant-loop-node : goal.invariant-loop-node
invariant-loop-node l =
    let only = map (λ (word : Bor (List ℕ)). word.now) l.only in
    list_all (λ (n : NodeFields). is_whole n.standing) (chosen only (drop l.node-index l.nodes)) ≡ list_all (λ (n : NodeFields). is_whole n.standing) (chosen only l.nodes)
