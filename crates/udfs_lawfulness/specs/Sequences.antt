-- The volume descriptor sequence, as far as it is known to be reached.
--     pairs_in blocks e                 both blocks of each position through the one that ends it
--     IsPairApart blocks e main reserve the known blocks of such a position do not say the same
use Rattle.std.specs.Prelude.{◌≡◌, ℕ, ◌+◌, ◌/◌, ◌<◌, true, List, [], ◌∷◌, filter, flat_map}
use Rattle.std.specs.List.{range_with_len}
use Rattle.udfs_lattice.specs.Volumes.{Blocks}
use Rattle.udfs_volume.specs.Differences.{differ_at, reaches}
use Rattle.udfs_volume.specs.Sequence.{shorter}
use Rattle.udfs_volume.specs.declared.anchors.AnchorExtents.{AnchorExtents}

-- the block of a position in the main extent, and that in the reserve one
abbrev pub pair_at : AnchorExtents → ℕ → List ℕ
pair_at e i = (e.main.block + i) ∷ (e.reserve.block + i) ∷ []

-- the positions before which the sequence is known to go on at each, in as many blocks as both extents have
abbrev pub reached_in : Blocks → AnchorExtents → List ℕ
reached_in blocks e = filter (reaches blocks e) (range_with_len 0 (shorter e / 2048))

-- both blocks of each of them
abbrev pub pairs_in : Blocks → AnchorExtents → List ℕ
pairs_in blocks e = flat_map (pair_at e) (reached_in blocks e)

-- these are the blocks of one of them, both are known, and they do not say the same of the sequence or of the layout
pub record IsPairApart (blocks : Blocks) (e : AnchorExtents) (main reserve : ℕ) : Type 0 where
  pub place : ℕ
  pub inside : place < shorter e / 2048
  pub reached : reaches blocks e place ≡ true
  pub differ : differ_at blocks e place ≡ true
  pub main_is : main ≡ e.main.block + place
  pub reserve_is : reserve ≡ e.reserve.block + place
