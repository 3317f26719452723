use Rattle.std.proofs.Common.{◌≡◌, ℕ, suc, map, length, take}
use Rattle.udfs_words.specs.Globs.{fits, name_step}
use Rattle.udfs_words.specs.GlobRows.{some_fits}
use Rattle.udfs_words.proofs.globs.name_places.Given as goal

-- of each front: behind some place that is reached the names are what the rest of the pattern stands for
abbrev pub invariant-loop-first : goal.invariant-loop-first
invariant-loop-first l = record {
  places : length l.row.items ≡ suc (length (map (λ name. name.items) l.names));
  fits : (k : ℕ) → fits (map name_step (map (λ name. name.items) l.pattern)) (take k (map (λ name. name.items) l.names)) ≡ some_fits (take (suc k) l.row.items) (map name_step (map (λ name. name.items) l.rest)) (take k (map (λ name. name.items) l.names));
}

abbrev pub decreases-loop-first : goal.decreases-loop-first
decreases-loop-first l = length l.rest
