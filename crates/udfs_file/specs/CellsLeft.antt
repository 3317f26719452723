-- The cells of a body that are left after the first ones.
--     cells_left cells      those that are left
--     room cells            how many of the first lie in one block
use Rattle.std.specs.Prelude.{◌<◌, ℕ, List, [], ◌∷◌, drop, ⊤}
use Rattle.udfs_space.specs.Views.{view_now}
use Rattle.udfs_file.specs.Stretches.{cells_of, stretch_count}
use Rattle.udfs_file.specs.Pieces.{rest_in_block}
use Rattle.udfs_file.specs.declared.cells.Cell.{Cell}
use Rattle.udfs_file.specs.declared.cells.Cells.{Cells}
use Rattle.udfs_file.specs.declared.stretches.Stretch.{Stretch}

-- the cells from here on
abbrev pub cells_left : Cells → List Cell
cells_left c = drop c.passed (cells_of (view_now c.view) c.stretches.now)

-- the next cell is one of the first stretch, if there is a stretch, and it is not the 2^64th
abbrev pub IsInFirst : ℕ → List Stretch → Type 0
IsInFirst passed [] = ⊤
IsInFirst passed (s ∷ ss) = (passed < stretch_count s) × (passed < 18446744073709551615)

-- the next cell lies in the first stretch, if any is left
abbrev pub IsSettled : Cells → Type 0
IsSettled c = IsInFirst c.passed c.stretches.now

-- how many of the first cells lie in one block
abbrev pub room_of : ℕ → List Stretch → ℕ
room_of passed [] = 0
room_of passed (s ∷ ss) = rest_in_block s passed

-- how many cells are left
abbrev pub room : Cells → ℕ
room c = room_of c.passed c.stretches.now
