-- The blocks to read again rise.
use Rattle.std.proofs.Common.{◌≡◌, ℕ, List, sym, subst}
use Rattle.std.specs.Prelude.{flat_map}
use Rattle.udfs_volume.specs.Seen.{IsRising}
use Rattle.udfs_volume.proofs.PublicLaws.{ascending_rises}
use Rattle.udfs_walk.specs.NodeFields.{NodeFields}
use Rattle.udfs_walk.specs.Rereads.{missing_of, reread}

pub reread_rises : (blocks : List ℕ) (nodes : List NodeFields) → blocks ≡ reread nodes → IsRising blocks
reread_rises blocks nodes e = subst IsRising (sym e) (ascending_rises (flat_map (λ n. missing_of n.standing) nodes))
