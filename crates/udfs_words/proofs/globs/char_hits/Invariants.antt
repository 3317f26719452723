use Rattle.std.proofs.Common.{◌≡◌, map, take}
use Rattle.std.specs.Prelude.{◌==◌, ◌||◌}
use Rattle.udfs_words.proofs.globs.char_hits.Given as goal

-- those of the characters so far
abbrev pub invariant-loop-c : goal.invariant-loop-c
invariant-loop-c l = l.hits.items ≡ map (λ c. l.pattern == 63 || c == l.pattern) (take l.c-index l.name)
