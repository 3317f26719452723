-- The known blocks that are asked for beside those to read again, by which a pass of another disc shows.
--     structures_of volume        where the file set and the root's entry of a volume that opens are
--     beside compares wanted known    known blocks are asked for where they are to be compared and something is wanted
--     compared compares table last volume wanted     those that are asked for beside blocks of a volume that are wanted
use Rattle.std.specs.Prelude.{ℕ, Bool, true, false, List, [], ◌∷◌, ◌++◌, Option, Some, None}
use Rattle.udfs_lattice.specs.Tables.{Table, state_of}
use Rattle.udfs_salvage.specs.Found.{Found}
use Rattle.udfs_space.specs.Places.{place}
use Rattle.udfs_volume.specs.Answers.{Answer, found, holes, faulty}
use Rattle.udfs_witnesses.specs.Witnesses.{witnesses}

-- the block of the volume at an address, if there is one
abbrev pub block_of : Option ℕ → List ℕ
block_of None = []
block_of (Some n) = n ∷ []

-- of a volume that opens the blocks of the file set and of the root's entry
abbrev pub structures_of : Answer Found → List ℕ
structures_of (found f) = block_of (place f.space f.layout.file_set.reference f.layout.file_set.block) ++ block_of (place f.space f.root.reference f.root.block)
structures_of (holes listed) = []
structures_of (faulty fault) = []

-- the witnesses beside blocks that are wanted: none where none is to be compared, or nothing is wanted
abbrev pub beside : Bool → List ℕ → List ℕ → List ℕ
beside false wanted known = []
beside true [] known = []
beside true (n ∷ ns) known = known

-- the witnesses beside blocks of a table's volume that are wanted
abbrev pub compared : Bool → Table → ℕ → Answer Found → List ℕ → List ℕ
compared compares table last volume wanted = beside compares wanted (witnesses (state_of table) last (structures_of volume))
