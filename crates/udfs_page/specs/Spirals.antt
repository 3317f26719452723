-- The disc as a spiral of 24 turns from 24 to 58 mm, and where each arc of it is, in whole numbers.
--     root n                                the square root, rounded down
--     radius count i, degrees r             the middle of arc i: how far from the disc's middle, and at what angle
--     arc_text count blocks i mark          the picture of arc i
--     spiral_text marks blocks              that of all arcs
use Rattle.std.specs.Prelude.{ℕ, ◌+◌, ◌-◌, ◌*◌, ◌/◌, ◌%◌, ◌≤◌, ◌<◌, nat_le, zero, suc, List, ◌++◌, codes, get_or, flat_map, length, if◌then◌else◌}
use Rattle.std.specs.List.{range_with_len}
use Rattle.udfs_page.specs.Markups.{figure, markup}
use Rattle.udfs_page.specs.Arcs.{arc_of, first_block}
use Rattle.udfs_page.specs.declared.disc_arcs.Mark.{Mark}
use Rattle.udfs_page.specs.declared.disc_arcs.Mark.TheVariants.{InConflict, Known, Needed, NotKnown}

-- the root grows by one where the next square is reached
unfoldable pub root : ℕ → ℕ
root zero = 0
root (suc n) = if nat_le ((root n + 1) * (root n + 1)) (suc n) then root n + 1 else root n

-- the square of the inner radius, which is 24 mm, in ten-thousandths of a millimetre
abbrev pub inner_square : ℕ
inner_square = 240000 * 240000

-- the square of the outer radius, which is 58 mm, in ten-thousandths of a millimetre
abbrev pub outer_square : ℕ
outer_square = 580000 * 580000

-- the radius of the middle of arc i, in ten-thousandths of a millimetre: a disc has as many blocks on as much of its surface
unfoldable pub radius : ℕ → ℕ → ℕ
radius count i = root (inner_square + (outer_square - inner_square) * (2 * i + 1) / (2 * count))

-- the angle at a radius, in hundredths of a degree: 24 turns between the inner and the outer radius
abbrev pub degrees : ℕ → ℕ
degrees r = (r - 240000) * (24 * 36000) / 340000 % 36000

-- half of the length of an arc, in hundredths of a millimetre: all turns together are 6,182.65 mm long
abbrev pub half_length : ℕ → ℕ
half_length count = 309132 / count

-- approximately how far the middle of an arc of radius r and half length h bulges beyond the line between its ends
abbrev pub bow : ℕ → ℕ → ℕ
bow r h = h * h / (2 * r)

-- a number of hundredths
abbrev pub hundredths : ℕ → List ℕ
hundredths n = figure (n / 100) ++ markup (codes ".") ++ figure (n / 10 % 10) ++ figure (n % 10)

-- each mark has a shape of its own in the style, beside its colour
abbrev pub mark_class : Mark → List ℕ
mark_class Known = codes "k"
mark_class NotKnown = codes "n"
mark_class Needed = codes "m"
mark_class InConflict = codes "c"

-- a curve that begins here, half a length h before its middle, and is bent by so much
abbrev pub curve_from : ℕ → ℕ → ℕ → List ℕ
curve_from start h bent =
    markup (codes " d='M") ++ figure start ++ markup (codes "-") ++ figure h ++ markup (codes "q") ++ figure bent ++ markup (codes " ") ++ figure h ++ markup (codes " 0 ") ++ figure (2 * h) ++ markup (codes "'")

-- a curve at this radius
abbrev pub curve_text : ℕ → ℕ → List ℕ
curve_text r h = curve_from (r - bow r h) h (2 * bow r h)

-- the curve of an arc, turned to its place
abbrev pub placed_text : ℕ → ℕ → List ℕ
placed_text count r = curve_text (r / 100) (half_length count) ++ markup (codes " transform='rotate(") ++ hundredths (degrees r) ++ markup (codes ")'>")

-- what a mark means, and the end of the title that says so
abbrev pub title_end : Mark → List ℕ
title_end Known = codes ": known</title></path>\n"
title_end NotKnown = codes ": not known, and not needed</title></path>\n"
title_end Needed = codes ": needed</title></path>\n"
title_end InConflict = codes ": in conflict</title></path>\n"

-- the first and the last block of an arc, and what its mark means, for who points at it
abbrev pub title_text : Mark → ℕ → ℕ → List ℕ
title_text mark first last = markup (codes "<title>blocks ") ++ figure first ++ markup (codes " to ") ++ figure last ++ markup (title_end mark)

-- the blocks of an arc with this mark
abbrev pub blocks_text : ℕ → ℕ → ℕ → Mark → List ℕ
blocks_text count blocks i mark = title_text mark (first_block count blocks i) (first_block count blocks (i + 1) - 1)

-- the picture of arc i
unfoldable pub arc_text : ℕ → ℕ → ℕ → Mark → List ℕ
arc_text count blocks i mark = markup (codes "<path class=") ++ markup (mark_class mark) ++ placed_text count (radius count i) ++ blocks_text count blocks i mark

-- the picture of all arcs of a disc with `blocks` blocks
abbrev pub spiral_text : List Mark → ℕ → List ℕ
spiral_text marks blocks = flat_map (λ i. arc_text (length marks) blocks i (get_or marks i Known)) (range_with_len 0 (length marks))

-- ---- laws

-- the root's square is at most the number, and the next one is more
pub record IsRoot (n r : ℕ) : Type 0 where
  pub square : r * r ≤ n
  pub next : n < (r + 1) * (r + 1)

-- a block is not before the first of its arc, and before the first of the next arc
pub record IsInArc (count blocks n : ℕ) : Type 0 where
  pub from : first_block count blocks (arc_of count blocks n) ≤ n
  pub before : n < first_block count blocks (arc_of count blocks n + 1)
