use Rattle.std.proofs.Common.{◌≡◌, ◌++◌, List, map, take, ℕ}
use Rattle.std.specs.Borrow.{Bor}
use Rattle.std.specs.Prelude.{flat_map}
use Rattle.std.specs.String.{string_bytes}
use Rattle.udfs_overview.specs.UnreadLists.{path_line}
use Rattle.udfs_overview.proofs.unread_lines.push_path_lines.Given as goal

-- the lines so far
abbrev pub invariant-loop-path : goal.invariant-loop-path
invariant-loop-path l = string_bytes l.text ≡ string_bytes l.fn.text ++ flat_map path_line (map (λ (path : Bor (List (List ℕ))). path.now) (take l.path-index l.paths))
