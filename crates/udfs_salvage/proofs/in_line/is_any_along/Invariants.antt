-- what is left decides
use Rattle.std.proofs.Common.{◌≡◌, Bor, List, ℕ, drop, map}
use Rattle.std.specs.Prelude.{◌||◌}
use Rattle.std.specs.List.{list_any}
use Rattle.udfs_salvage.specs.Choosing.{is_under}
use Rattle.udfs_salvage.proofs.in_line.is_any_along.Given as goal

abbrev pub invariant-loop-word : goal.invariant-loop-word
invariant-loop-word l = list_any (λ word. is_under word l.text || is_under l.text word) (map (λ (word : Bor (List ℕ)). word.now) (drop l.word-index l.only)) ≡ list_any (λ word. is_under word l.text || is_under l.text word) (map (λ (word : Bor (List ℕ)). word.now) l.only)
