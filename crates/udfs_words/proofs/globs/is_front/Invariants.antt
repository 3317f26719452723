-- What is left decides.
use Rattle.std.proofs.Common.{◌≡◌, ◌-◌, length, map, take}
use Rattle.std.specs.List.{list_any, range_with_len}
use Rattle.udfs_words.specs.Globs.{fits, name_step}
use Rattle.udfs_words.proofs.globs.is_front.Given as goal

abbrev pub invariant-loop-count : goal.invariant-loop-count
invariant-loop-count l =
    list_any (λ k. fits (map name_step (take k (map (λ name. name.items) l.pattern))) (map (λ name. name.items) l.names)) (range_with_len l.count (length (map (λ name. name.items) l.pattern) - l.count))
    ≡ list_any (λ k. fits (map name_step (take k (map (λ name. name.items) l.pattern))) (map (λ name. name.items) l.names)) (range_with_len 0 (length (map (λ name. name.items) l.pattern)))
