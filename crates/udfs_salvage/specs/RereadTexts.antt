-- The text of the blocks to read again by themselves.
--     number_lines blocks      each number on a line of its own
use Rattle.std.specs.Prelude.{ℕ, List, flat_map, decimal}
use Rattle.udfs_salvage.specs.Texts.{line}

-- the line of a block's number
abbrev pub number_line : ℕ → List ℕ
number_line block = line (decimal block)

-- the lines of blocks' numbers
abbrev pub number_lines : List ℕ → List ℕ
number_lines blocks = flat_map number_line blocks
