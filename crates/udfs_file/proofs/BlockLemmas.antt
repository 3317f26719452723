-- Stretches that lie in blocks, one more at a time.
use Rattle.std.proofs.Common.{List, [], ◌∷◌, ◌++◌}
use Rattle.udfs_file.specs.declared.stretches.Stretch.{Stretch}
use Rattle.udfs_file.specs.Stretches.{FillsBlocks, IsLastStretch, LieInBlocks}

-- each of the stretches so far is one that others may follow
abbrev pub AllFill : List Stretch → Type 0
AllFill [] = Unit {0}
AllFill (s ∷ ss) = FillsBlocks s × AllFill ss

pub fill_more : (ss : List Stretch) (s : Stretch) → AllFill ss → FillsBlocks s → AllFill (ss ++ s ∷ [])
fill_more [] s h f = (f, tt)
fill_more (x ∷ xs) s h f = (h.0, fill_more xs s h.1 f)

pub lie_more : (ss : List Stretch) (s : Stretch) → AllFill ss → IsLastStretch s → LieInBlocks (ss ++ s ∷ [])
lie_more [] s h l = l
lie_more (x ∷ []) s h l = (h.0, l)
lie_more (x ∷ y ∷ ys) s h l = (h.0, lie_more (y ∷ ys) s h.1 l)
