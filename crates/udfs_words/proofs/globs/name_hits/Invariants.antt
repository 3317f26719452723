use Rattle.std.proofs.Common.{◌≡◌, map, take}
use Rattle.udfs_words.specs.Globs.{fits_name}
use Rattle.udfs_words.proofs.globs.name_hits.Given as goal

-- those of the names so far
abbrev pub invariant-loop-name : goal.invariant-loop-name
invariant-loop-name l = l.hits.items ≡ map (fits_name l.pattern) (map (λ name. name.items) (take l.name-index l.names))
