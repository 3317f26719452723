use Rattle.std.proofs.Common.{◌≡◌, ◌++◌, map, length}
use Rattle.udfs_words.specs.Globs.{names_in}
use Rattle.udfs_words.proofs.GlobNaming.{joined}
use Rattle.udfs_words.proofs.glob_names.split_names.Given as goal

-- the names so far, and the rest behind the one that is begun
abbrev pub invariant-loop-first : goal.invariant-loop-first
invariant-loop-first l = map (λ name. name.items) l.names.items ++ joined l.name.items (names_in l.rest) ≡ names_in l.text

abbrev pub decreases-loop-first : goal.decreases-loop-first
decreases-loop-first l = length l.rest
