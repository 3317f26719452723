-- The states of the disc's blocks, in arcs of a picture.
--     arc_count last                   how many arcs there are
--     first_block count blocks i       the first block of arc i
--     arc_of count blocks n            the arc that block n is in
--     arcs_of states reread last       what is shown of each arc, in the order of the blocks
use Rattle.std.specs.Prelude.{ℕ, ◌+◌, ◌-◌, ◌*◌, ◌/◌, ◌==◌, ◌&&◌, Bool, true, false, not, nat_lt, List, count_by, map, min, if◌then◌else◌}
use Rattle.std.specs.List.{range_with_len}
use Rattle.udfs_lattice.specs.States.{State, is_conflict, is_known}
use Rattle.udfs_lattice.specs.Volumes.{Blocks}
use Rattle.udfs_lattice.specs.declared.facts.Fact.{Fact}
use Rattle.udfs_lattice.specs.declared.facts.Fact.TheVariants as fact
use Rattle.udfs_page.specs.declared.disc_arcs.Mark.{Mark}
use Rattle.udfs_page.specs.declared.disc_arcs.Mark.TheVariants.{InConflict, Known, Needed, NotKnown}

-- one arc a block, but at most 2,000
abbrev pub arc_count : ℕ → ℕ
arc_count last = min (last + 1) 2000

-- arc i begins after i of `count` equal parts of the blocks
abbrev pub first_block : ℕ → ℕ → ℕ → ℕ
first_block count blocks i = i * blocks / count

-- how many blocks arc i has: it ends where the next one begins
abbrev pub arc_length : ℕ → ℕ → ℕ → ℕ
arc_length count blocks i = first_block count blocks (i + 1) - first_block count blocks i

-- the arc of block n: its first block is at most n, and the first block of the next arc is more
abbrev pub arc_of : ℕ → ℕ → ℕ → ℕ
arc_of count blocks n = ((n + 1) * count - 1) / blocks

-- the blocks in conflict are counted, or the known ones
abbrev pub is_counted : Bool → State → Bool
is_counted conflicts s = if conflicts then is_conflict s else is_known s

-- the same of what is known of a block without its bytes
abbrev pub is_seen : Bool → Fact (Unit {0}) → Bool
is_seen conflicts fact.Unknown = false
is_seen conflicts (fact.Known u) = not conflicts
is_seen conflicts fact.Conflict = conflicts

-- how many of so many blocks are in conflict, or known, and in arc i
abbrev pub counted_in : Bool → Blocks → ℕ → ℕ → ℕ → ℕ
counted_in conflicts states count blocks i = count_by (λ n. is_counted conflicts (states n) && arc_of count blocks n == i) (range_with_len 0 blocks)

-- how many blocks of arc i are to be read again
abbrev pub needed_in : List ℕ → ℕ → ℕ → ℕ → ℕ
needed_in reread count blocks i = count_by (λ n. arc_of count blocks n == i) reread

-- the worst of what is true of the blocks of an arc: in conflict is worse than needed, that worse than not known, and that than known
abbrev pub mark_of : ℕ → ℕ → ℕ → ℕ → Mark
mark_of known conflicts needed blocks =
    if nat_lt 0 conflicts then InConflict
    else if nat_lt 0 needed then Needed
    else if known == blocks then Known
    else NotKnown

-- what is shown of arc i
abbrev pub arc_mark : Blocks → List ℕ → ℕ → ℕ → ℕ → Mark
arc_mark states reread count blocks i =
    mark_of (counted_in false states count blocks i) (counted_in true states count blocks i) (needed_in reread count blocks i) (arc_length count blocks i)

-- what is shown of each arc
unfoldable pub arcs_of : Blocks → List ℕ → ℕ → List Mark
arcs_of states reread last = map (arc_mark states reread (arc_count last) (last + 1)) (range_with_len 0 (arc_count last))
