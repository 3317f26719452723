-- An image that keeps its bytes keeps the reading of its blocks.
use Rattle.std.proofs.Common.{◌≡◌, ℕ, List, Option, Some, None, IfSome, ap, ◌∙◌}
use Rattle.std.specs.Io.KnownBytes.{Keeps}
use Rattle.udfs_rescue.specs.declared.known.BlockRange.{BlockRange}
use Rattle.udfs_rescue.specs.Blocks.{reading_known, reading_of}

pub reading_kept : (old new left : Option (List ℕ)) (ranges : List BlockRange) → Keeps old new → left ≡ reading_known new ranges → IfSome old (λ all. left ≡ Some (reading_of all ranges))
reading_kept None new left ranges same is = tt
reading_kept (Some all) (Some other) left ranges same is = is ∙ ap (λ l. Some (reading_of l ranges)) same
reading_kept (Some all) None left ranges same is = absurd same
