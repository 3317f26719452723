-- Standings: what is missing of a body, and what is reported of a node with a body.
--     missing_blocks cells                       the blocks that missing cells name
--     runs_from at cells                         the maximal runs of missing cells
--     body_standing profile kind is_deep body    the standing of an entry with this body, by these rules
use Rattle.std.specs.Prelude.{ℕ, ◌+◌, Bool, true, false, List, [], ◌∷◌, cond, nat_eq, Option, Some, None}
use Rattle.udfs_lattice.specs.Volumes.{ascending}
use Rattle.udfs_volume.specs.declared.profiles.Profile.{Profile}
use Rattle.udfs_file.specs.Bodies.{Body, cells, faulty_body}
use Rattle.udfs_file.specs.Fronts.{directory_by, entries_by, fault_in}
use Rattle.udfs_file.specs.declared.cells.Cell.{Cell}
use Rattle.udfs_file.specs.declared.cells.Cell.TheVariants.{Byte, Gap}
use Rattle.udfs_file.specs.declared.directories.DirEntry.{DirEntry}
use Rattle.udfs_file.specs.declared.faults.Kind.{Kind}
use Rattle.udfs_file.specs.declared.faults.Kind.TheVariants.{Directory}
use Rattle.udfs_file.specs.declared.faults.NodeFault.{NodeFault}
use Rattle.udfs_file.specs.declared.faults.NodeFault.TheVariants.{Depth}
use Rattle.udfs_walk.specs.declared.standings.Standing.{Standing}
use Rattle.udfs_walk.specs.declared.standings.Standing.TheVariants.{Whole, Torn, Fault}

-- the blocks that the missing cells need, cell by cell
abbrev pub missing_blocks : List Cell → List ℕ
missing_blocks [] = []
missing_blocks (Byte x holder ∷ cs) = missing_blocks cs
missing_blocks (Gap n ∷ cs) = n ∷ missing_blocks cs

-- a missing cell at offset `at` joins the run that begins right after it, or is a run of its own
abbrev pub with_hole : ℕ → List (ℕ × ℕ) → List (ℕ × ℕ)
with_hole at [] = (at, 1) ∷ []
with_hole at (run ∷ runs) = cond (nat_eq run.0 (at + 1)) ((at, run.1 + 1) ∷ runs) ((at, 1) ∷ run ∷ runs)

-- the maximal runs of missing cells, each by its offset and length, where the first cell is at offset `at`
abbrev pub runs_from : ℕ → List Cell → List (ℕ × ℕ)
runs_from at [] = []
runs_from at (Byte x holder ∷ cs) = runs_from (at + 1) cs
runs_from at (Gap n ∷ cs) = with_hole at (runs_from (at + 1) cs)

-- whole where no block is missing, and else torn
abbrev pub torn_or_whole : List ℕ → List (ℕ × ℕ) → Standing
torn_or_whole [] runs = Whole
torn_or_whole (n ∷ ns) runs = Torn (record { missing = n ∷ ns; holes = runs })

-- what the cells alone say: torn if some are missing, with the blocks ascending and each once
unfoldable pub cells_standing : List Cell → Standing
cells_standing cs = torn_or_whole (ascending (missing_blocks cs)) (runs_from 0 cs)

-- where a directory is too deep and lists entries it has the fault Depth; else it has this standing
abbrev pub depth_or : Bool → List DirEntry → Standing → Standing
depth_or true (e ∷ es) standing = Fault Depth
depth_or true [] standing = standing
depth_or false es standing = standing

-- a standing, unless there is a fault
abbrev pub standing_or_fault : Option NodeFault → Standing → Standing
standing_or_fault None standing = standing
standing_or_fault (Some f) standing = Fault f

-- of a directory, a fault of what it lists comes first
abbrev pub directory_standing : Profile → Bool → List Cell → Standing
directory_standing profile is_deep cs = standing_or_fault (fault_in (directory_by profile cs).rest) (depth_or is_deep (entries_by profile cs) (cells_standing cs))

-- the standing of a directory, and that of an entry of another kind
abbrev pub kind_standing : Profile → Kind → Bool → List Cell → Standing
kind_standing profile Directory is_deep cs = directory_standing profile is_deep cs
kind_standing profile _ is_deep cs = cells_standing cs

-- a fault of the body comes first of all
abbrev pub body_standing : Profile → Kind → Bool → Body → Standing
body_standing profile kind is_deep (faulty_body f) = Fault f
body_standing profile kind is_deep (cells cs) = kind_standing profile kind is_deep cs
