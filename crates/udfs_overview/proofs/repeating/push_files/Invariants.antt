use Rattle.std.proofs.Common.{◌≡◌, ◌++◌, List, map, take, ℕ}
use Rattle.std.specs.Borrow.{Bor}
use Rattle.std.specs.Prelude.{flat_map}
use Rattle.std.specs.String.{string_bytes}
use Rattle.udfs_overview.specs.Repeating.{file_word}
use Rattle.udfs_overview.proofs.repeating.push_files.Given as goal

-- the files so far
abbrev pub invariant-loop-path : goal.invariant-loop-path
invariant-loop-path l = string_bytes l.text ≡ string_bytes l.fn.text ++ flat_map file_word (map (λ (path : Bor (List ℕ)). path.now) (take l.path-index l.paths))
