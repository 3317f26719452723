use Rattle.std.proofs.Common.{◌≡◌, List, drop, map, ℕ}
use Rattle.std.specs.Borrow.{Bor}
use Rattle.std.specs.List.{list_any}
use Rattle.udfs_overview.specs.Repeating.{ends_in}
use Rattle.udfs_overview.proofs.repeating.ends_any.Given as goal

-- what is left decides
abbrev pub invariant-loop-path : goal.invariant-loop-path
invariant-loop-path l = list_any (ends_in l.image l.mapfile) (map (λ (path : Bor (List ℕ)). path.now) (drop l.path-index l.paths)) ≡ list_any (ends_in l.image l.mapfile) (map (λ (path : Bor (List ℕ)). path.now) l.paths)
