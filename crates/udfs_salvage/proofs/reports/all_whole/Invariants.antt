use Rattle.std.proofs.Common.{◌≡◌, drop}
use Rattle.std.specs.List.{list_all}
use Rattle.udfs_walk.specs.Unsettled.{is_whole}
use Rattle.udfs_salvage.proofs.reports.all_whole.Given as goal

-- what is left decides
abbrev pub invariant-loop-node : goal.invariant-loop-node
invariant-loop-node l = list_all (λ n. is_whole n.standing) (drop l.node-index l.nodes) ≡ list_all (λ n. is_whole n.standing) l.nodes
