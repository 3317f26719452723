-- what is left decides
use Rattle.std.proofs.Common.{◌≡◌, drop}
use Rattle.std.specs.List.{list_any}
use Rattle.udfs_salvage.specs.InLine.{may_hide}
use Rattle.udfs_salvage.proofs.in_line.is_any_hiding.Given as goal

abbrev pub invariant-loop-node : goal.invariant-loop-node
invariant-loop-node l = list_any (λ n. may_hide n l.word) (drop l.node-index l.nodes) ≡ list_any (λ n. may_hide n l.word) l.nodes
