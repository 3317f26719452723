use Rattle.std.proofs.Common.{◌≡◌, List, map, take, ℕ}
use Rattle.std.specs.Borrow.{Bor}
use Rattle.std.specs.Prelude.{filter_map}
use Rattle.udfs_overview.specs.UnreadLists.{unread_path}
use Rattle.udfs_overview.proofs.unread_lines.unread_paths.Given as goal

-- those so far
abbrev pub invariant-loop-node : goal.invariant-loop-node
invariant-loop-node l = map (λ (path : Bor (List (List ℕ))). path.now) l.paths.items ≡ filter_map unread_path (take l.node-index l.nodes)
