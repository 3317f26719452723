-- What is said where known blocks by which the volume is opened do not say the same: no lawful volume agrees with the table.
--     anchors_line places      two anchors that name different extents
--     copies_line differ       copies of the volume descriptor sequence that differ in what the layout is read from
--     anchors_of blocks last       these anchors, of a disc that has room for a volume
--     copies_of rules blocks last  whether these copies differ, of such a disc
--     apart_lines anchors copies   the lines of both
use Rattle.std.specs.Prelude.{ℕ, ◌++◌, Bool, cond, false, List, [], Option, Some, None, codes, decimal}
use Rattle.udfs_lattice.specs.Volumes.{Blocks}
use Rattle.udfs_tag.specs.Faults.{is_within}
use Rattle.udfs_volume.specs.Differences.{anchors_apart, copies_differ}
use Rattle.udfs_volume.specs.declared.profiles.Profile.{Profile}

-- the block of the first anchor
unfoldable pub anchors_front : ℕ → List ℕ
anchors_front one = codes "anchors differ: block " ++ decimal one

-- the block of the other one, and what follows
unfoldable pub anchors_back : ℕ → List ℕ
anchors_back other = codes " opens another state of the disc than block " ++ decimal other ++ codes ": the volume is not lawful, and the guarantee does not hold for it"

-- what is said of anchors in these two blocks
unfoldable pub anchors_text : ℕ → ℕ → List ℕ
anchors_text one other = anchors_front one ++ anchors_back other

-- the line of two anchors, if there are two that name different extents
abbrev pub anchors_line : Option (ℕ × ℕ) → List ℕ
anchors_line None = []
anchors_line (Some places) = codes "Anchors    " ++ anchors_text places.0 places.1 ++ codes "\n"

-- the line of copies, if they differ
abbrev pub copies_line : Bool → List ℕ
copies_line differ =
    cond differ (codes "Copies     copies of the volume's descriptors differ: the volume is not lawful, and the guarantee does not hold for it\n") []

-- whether a disc with this last block has room for a volume
abbrev pub has_room : ℕ → Bool
has_room last = is_within 513 4194303 last

-- two anchors that name different extents, of a disc that has room for a volume
unfoldable pub anchors_of : Blocks → ℕ → Option (ℕ × ℕ)
anchors_of blocks last = cond (has_room last) (anchors_apart blocks last) None

-- whether copies differ, by the rules of a profile
unfoldable pub copies_of : Profile → Blocks → ℕ → Bool
copies_of rules blocks last = cond (has_room last) (copies_differ rules blocks last) false

-- both lines
abbrev pub apart_lines : Option (ℕ × ℕ) → Bool → List ℕ
apart_lines anchors copies = anchors_line anchors ++ copies_line copies
