-- what is left decides
use Rattle.std.proofs.Common.{◌≡◌, Bor, List, ℕ, drop, map}
use Rattle.std.specs.List.{list_any}
use Rattle.udfs_salvage.specs.Choosing.{is_under}
use Rattle.udfs_salvage.proofs.choosing.is_any_above.Given as goal

abbrev pub invariant-loop-word : goal.invariant-loop-word
invariant-loop-word l = list_any (λ word. is_under word l.text) (map (λ (word : Bor (List ℕ)). word.now) (drop l.word-index l.only)) ≡ list_any (λ word. is_under word l.text) (map (λ (word : Bor (List ℕ)). word.now) l.only)
