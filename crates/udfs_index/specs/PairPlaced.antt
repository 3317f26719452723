-- The number of a block among the known blocks of an image.
--     IsBeforeEach before ranges         how many blocks come before each range
--     IsBlockOf ranges number block left     which block has this number among those of the ranges, from 0
use Rattle.std.specs.Prelude.{◌≡◌, ℕ, ◌+◌, ◌-◌, ◌<◌, ◌≤◌, List, ◌∷◌, ◌++◌, length, take, slice_index}
use Rattle.udfs_rescue.specs.declared.known.BlockRange.{BlockRange}
use Rattle.udfs_rescue.specs.Known.{block_count}

-- each number is how many blocks the ranges before the one at its place have
pub record IsBeforeEach (before : List ℕ) (ranges : List BlockRange) : Type 0 where
  pub each : length before ≡ length ranges
  pub many : (i : ℕ) → i < length ranges → slice_index before i ≡ block_count (take i ranges)

-- `number` blocks come before this one, and `left` blocks of its range are from it on
pub record IsBlockOf (ranges : List BlockRange) (number block left : ℕ) : Type 0 where
  pub earlier : List BlockRange
  pub range : BlockRange
  pub later : List BlockRange
  pub are : ranges ≡ earlier ++ range ∷ later
  pub low : range.start ≤ block
  pub number_is : number ≡ block_count earlier + (block - range.start)
  pub left_is : block + left ≡ range.end
  pub some : 0 < left
  pub within : range.end ≤ 4194304
