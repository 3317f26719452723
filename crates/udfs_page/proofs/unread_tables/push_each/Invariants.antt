use Rattle.std.proofs.Common.{◌≡◌, ◌++◌, List, map, take, ℕ}
use Rattle.std.specs.Borrow.{Bor}
use Rattle.std.specs.Prelude.{flat_map}
use Rattle.std.specs.String.{string_bytes}
use Rattle.udfs_page.specs.UnreadTables.{unread_item}
use Rattle.udfs_page.proofs.unread_tables.push_each.Given as goal

-- those so far
abbrev pub invariant-loop-path : goal.invariant-loop-path
invariant-loop-path l = string_bytes l.text ≡ string_bytes l.fn.text ++ flat_map unread_item (map (λ (path : Bor (List (List ℕ))). path.now) (take l.path-index l.paths))
