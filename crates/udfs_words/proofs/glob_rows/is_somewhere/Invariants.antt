-- what is left decides
use Rattle.std.proofs.Common.{◌≡◌, drop}
use Rattle.std.specs.List.{list_any}
use Rattle.udfs_words.proofs.glob_rows.is_somewhere.Given as goal

abbrev pub invariant-loop-reached : goal.invariant-loop-reached
invariant-loop-reached l = list_any (λ b. b) (drop l.reached-index l.row) ≡ list_any (λ b. b) l.row
