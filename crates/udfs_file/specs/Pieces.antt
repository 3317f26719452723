-- Cells side by side as borrowed bytes.
--     byte_cells holder bytes      the cells with these bytes, which one logical block holds, or none
--     IsPieceOf piece cells        all cells are bytes of one block, or the first is missing
--     Starts passed stretches      a block or a stretch begins there
--     IsFrontTaken front cells          the bytes of all cells in two pieces, or the first missing block
use Rattle.std.specs.Prelude.{◌≡◌, ◌⊎◌, ⊤, ℕ, ◌+◌, ◌-◌, ◌%◌, ◌<◌, ◌≤◌, min, List, [], ◌∷◌, ◌++◌, length, map, Option, Some, None}
use Rattle.udfs_file.specs.declared.cells.Cell.{Cell}
use Rattle.udfs_file.specs.declared.cells.Cell.TheVariants.{Byte, Gap}
use Rattle.udfs_file.specs.declared.pieces.Piece.{Piece}
use Rattle.udfs_file.specs.declared.pieces.Piece.TheVariants as piece
use Rattle.udfs_file.specs.declared.pieces.Front.{Front}
use Rattle.udfs_file.specs.declared.pieces.Front.TheVariants as front
use Rattle.udfs_file.specs.declared.pieces.Pieces.{Pieces}
use Rattle.udfs_file.specs.declared.stretches.Stretch.{Stretch}
use Rattle.udfs_file.specs.declared.stretches.Stretch.TheVariants.{Recorded, Zeros, Missing}
use Rattle.udfs_file.specs.Fronts.{first_missing, holder_of, value}
use Rattle.udfs_file.specs.Stretches.{stretch_count}

-- bytes that one block holds, as cells
abbrev pub byte_cells : Option ℕ → List ℕ → List Cell
byte_cells holder bytes = map (λ x. Byte x holder) bytes

-- the cells are the bytes of this piece, or the first of them is missing
abbrev pub IsPieceOf : Piece → List Cell → Type 0
IsPieceOf (piece.Bytes bytes holder) cells = cells ≡ byte_cells holder bytes.now
IsPieceOf (piece.Gap n) cells = (rest : List Cell) × (cells ≡ Gap n ∷ rest)

-- a piece without a missing cell has `count` bytes
abbrev pub FitsPiece : Piece → ℕ → Type 0
FitsPiece (piece.Bytes bytes holder) count = length bytes.now ≡ count
FitsPiece (piece.Gap n) count = ⊤

-- ---- two pieces
-- how many cells of a stretch, after the first `passed`, lie in one block
abbrev pub rest_in_block : Stretch → ℕ → ℕ
rest_in_block (Recorded run count) passed = min (2048 - (run.offset + passed) % 2048) (count - passed)
rest_in_block (Zeros count) passed = count - passed
rest_in_block (Missing n count) passed = count - passed

-- the cells of a stretch after the first `passed` begin a block, or the stretch, or are missing
abbrev pub BeginsBlock : Stretch → ℕ → Type 0
BeginsBlock (Recorded run count) passed = ((run.offset + passed) % 2048 ≡ 0) ⊎ (passed ≡ 0)
BeginsBlock (Zeros count) passed = passed ≡ 0
BeginsBlock (Missing n count) passed = ⊤

-- the cells of stretches after the first `passed` do so, in the stretch in which they begin
abbrev pub Starts : ℕ → List Stretch → Type 0
Starts passed [] = ⊤
Starts passed (s ∷ ss) = (passed < stretch_count s → BeginsBlock s passed) × (stretch_count s ≤ passed → Starts (passed - stretch_count s) ss)

-- none of the cells is missing, and these are their bytes
pub record ShowsBytes (view : Pieces) (cells : List Cell) : Type 0 where
  pub no_missing : first_missing cells ≡ None
  pub values : map value cells ≡ view.first.now ++ view.second.now
  pub holder : holder_of cells ≡ view.holder

-- what was taken from the beginning of the cells: their bytes, or the first missing block
abbrev pub IsFrontTaken : Front → List Cell → Type 0
IsFrontTaken (front.Bytes view) cells = ShowsBytes view cells
IsFrontTaken (front.Gap n) cells = first_missing cells ≡ Some n
