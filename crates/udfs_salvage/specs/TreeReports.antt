-- What a report says of every volume that is lawful by the rules of a profile and agrees with the table.
--     TellsTreeBy profile blocks last report        each node is one of the volume's tree, and what is whole is the tree's
--     TellsWholeTreeBy profile blocks last report   where all of the volume is known, the nodes are its tree, all whole
--     IsOfNoLawfulBy profile blocks last e   there is no report only where no lawful volume agrees, or memory ran out
--     WritesFileBy profile blocks last n   what is done with the bytes of a whole node is done with the tree's
--     FillsFileBy profile blocks last n fill        what is done with the bytes of a node that is filled is done with the tree's, its holes filled
--     OpensOnceBy, OneFileAtBy               the standard opens a lawful volume in one way, and a path leads to one file
--     ReportsTellTreeBy profile              every report of a table says this
--     SomeLawfulBy profile                   there are lawful volumes with files, by the maps that a volume can have
-- The same names without By are these by the strict rules.
use Rattle.std.specs.Prelude.{◌≡◌, ◌⊎◌, ⊤, ℕ, List, [], ◌∷◌, length, slice_get, Some, map}
use Rattle.udfs_volume.specs.declared.profiles.Profile.{Profile}
use Rattle.udfs_volume.specs.declared.profiles.Profile.TheVariants.{Strict}
use Rattle.udfs_lattice.specs.Volumes.{Blocks, Volume, Agrees, complete}
use Rattle.udfs_volume.specs.Answers.{Answer, found, holes}
use Rattle.udfs_volume.specs.Layout.{Layout, Partition, layout_by}
use Rattle.udfs_volume.specs.Sample.{Maps, sample_partitions}
use Rattle.udfs_space.specs.Places.{view}
use Rattle.udfs_file.specs.declared.cells.Cell.{Cell}
use Rattle.udfs_walk.specs.NodeFields.{NodeFields}
use Rattle.udfs_walk.specs.declared.standings.Standing.TheVariants.{Whole}
use Rattle.udfs_walk.specs.Trees.{TreeFile}
use Rattle.udfs_walk.specs.Rereads.{holes_of}
use Rattle.udfs_walk.specs.Cells.{HasCellsAt, HasNoFault, IsInRuns, IsWholeAs, IsToldAs}
use Rattle.udfs_walk.specs.TreeLaws.{HasPathsOnce, IsTold}
use Rattle.udfs_salvage.specs.Found.{Found}
use Rattle.udfs_salvage.specs.Reports.{Report, IsReportBy}
use Rattle.udfs_salvage.specs.VolumeTrees.{Opened, IsOpenedBy, IsInVolumeBy, IsLawfulBy, IsMetBy}
use Rattle.udfs_salvage.specs.declared.errors.SalvageError.{SalvageError}
use Rattle.udfs_salvage.specs.declared.errors.SalvageError.TheVariants as errors

-- the volume opens, or has holes
abbrev pub OpensOrHasHoles : Answer Found → Type 0
OpensOrHasHoles told = ((f : Found) × (told ≡ found f)) ⊎ ((listed : List ℕ) × (told ≡ holes listed))

-- these are the cells of the body of the node at this place in the report
abbrev pub HasReportCells : Blocks → Found → ℕ → List Cell → Type 0
HasReportCells blocks f index cs = HasCellsAt (view blocks f.space) f.root index cs

-- the node is whole, told as the file by the rules of the space, and has all of its bytes
abbrev pub IsReportedAs : Blocks → Found → ℕ → NodeFields → TreeFile → Type 0
IsReportedAs blocks f index n file = (cs : List Cell) × HasReportCells blocks f index cs × IsWholeAs f.space.profile n file cs

-- Of the node at this place in the report of a volume that opens.
pub record IsNodeOfVolume (profile : Profile) (blocks : Blocks) (volume : Volume) (last : ℕ) (told : Answer Found) (index : ℕ) (n : NodeFields) : Type 0 where
  pub opened : Found
  pub opens : told ≡ found opened
  -- it is read by these rules, which say what kind a file's entry is
  pub rules : opened.space.profile ≡ profile
  -- it is one of the tree at its path
  pub file : TreeFile
  pub in_volume : IsInVolumeBy profile volume last n.path file
  pub no_fault : HasNoFault n
  -- it is reported as the tree has it, with the tree's bytes outside its holes; or its entry was not read
  pub as_far : IsTold (view blocks opened.space) opened.root index n file
  -- if it is whole, it has all of the tree's bytes, and of each group that it needs a block is known
  pub whole : n.standing ≡ Whole → IsReportedAs blocks opened index n file × IsMetBy profile blocks volume last n.path

-- the report describes this volume: each node is one of its files or directories, as it has it, and none twice
pub record IsReportOf (profile : Profile) (blocks : Blocks) (volume : Volume) (last : ℕ) (report : Report) : Type 0 where
  pub no_fault : OpensOrHasHoles report.volume
  pub nodes : (index : ℕ) (n : NodeFields) → slice_get report.nodes index ≡ Some n → IsNodeOfVolume profile blocks volume last report.volume index n
  pub once : HasPathsOnce report.nodes

-- for every lawful volume with which the table agrees
abbrev pub TellsTreeBy : Profile → Blocks → ℕ → Report → Type 0
TellsTreeBy profile blocks last report = (volume : Volume) → IsLawfulBy profile volume last → Agrees blocks volume last → IsReportOf profile blocks volume last report

-- The nodes are those of the volume's tree, each once, and all are whole.
pub record IsWholeReportOf (profile : Profile) (blocks : Blocks) (volume : Volume) (last : ℕ) (report : Report) : Type 0 where
  pub opened : Found
  pub opens : report.volume ≡ found opened
  pub rules : opened.space.profile ≡ profile
  pub in_volume : (index : ℕ) (n : NodeFields) → slice_get report.nodes index ≡ Some n
      → (file : TreeFile) × IsInVolumeBy profile volume last n.path file × IsReportedAs blocks opened index n file
  pub is_listed : (path : List (List ℕ)) (file : TreeFile) → IsInVolumeBy profile volume last path file
      → (index : ℕ) × (n : NodeFields) × (slice_get report.nodes index ≡ Some n) × (n.path ≡ path) × IsReportedAs blocks opened index n file
  pub once : HasPathsOnce report.nodes

-- for every lawful volume of which the table knows all
abbrev pub TellsWholeTreeBy : Profile → Blocks → ℕ → Report → Type 0
TellsWholeTreeBy profile blocks last report = (volume : Volume) → IsLawfulBy profile volume last → ((n : ℕ) → blocks n ≡ complete volume last n)
    → IsWholeReportOf profile blocks volume last report

-- no lawful volume agrees with the table
abbrev pub AgreesWithNoneBy : Profile → Blocks → ℕ → Type 0
AgreesWithNoneBy profile blocks last = (volume : Volume) → IsLawfulBy profile volume last → ¬ Agrees blocks volume last

-- the same by the strict rules
abbrev pub AgreesWithNone : Blocks → ℕ → Type 0
AgreesWithNone = AgreesWithNoneBy Strict

-- an error other than out of memory is reported only where no lawful volume agrees with the table
abbrev pub IsOfNoLawfulBy : Profile → Blocks → ℕ → SalvageError → Type 0
IsOfNoLawfulBy profile blocks last errors.LastRange = AgreesWithNoneBy profile blocks last
IsOfNoLawfulBy profile blocks last (errors.PastEnd n) = AgreesWithNoneBy profile blocks last
IsOfNoLawfulBy profile blocks last errors.TooManyPaths = AgreesWithNoneBy profile blocks last
IsOfNoLawfulBy profile blocks last errors.OutOfMemory = ⊤

-- the same by the strict rules
abbrev pub IsOfNoLawful : Blocks → ℕ → SalvageError → Type 0
IsOfNoLawful = IsOfNoLawfulBy Strict

-- the standard opens a lawful volume, and in one way only
abbrev pub OpensOnceBy : Profile → Type 0
OpensOnceBy profile = (volume : Volume) (last : ℕ) → IsLawfulBy profile volume last
    → (opened : Opened) × IsOpenedBy profile volume last opened × ((other : Opened) → IsOpenedBy profile volume last other → other ≡ opened)

-- the same by the strict rules
abbrev pub OpensOnce : Type 0
OpensOnce = OpensOnceBy Strict

-- in a lawful volume a path leads to at most one file
abbrev pub OneFileAtBy : Profile → Type 0
OneFileAtBy profile = (volume : Volume) (last : ℕ) → IsLawfulBy profile volume last → (path : List (List ℕ)) (file other : TreeFile)
    → IsInVolumeBy profile volume last path file → IsInVolumeBy profile volume last path other → other ≡ file

-- the same by the strict rules
abbrev pub OneFileAt : Type 0
OneFileAt = OneFileAtBy Strict

-- every report of a table says this of every lawful volume that agrees with it, and of every one that it knows whole
abbrev pub ReportsTellTreeBy : Profile → Type 0
ReportsTellTreeBy profile = (blocks : Blocks) (last : ℕ) (report : Report) → IsReportBy profile blocks last report → TellsTreeBy profile blocks last report × TellsWholeTreeBy profile blocks last report

-- the same by the strict rules
abbrev pub ReportsTellTree : Type 0
ReportsTellTree = ReportsTellTreeBy Strict

-- the layout of the volume, by the rules of a profile, names these partitions
abbrev pub NamesPartitionsBy : Profile → Volume → ℕ → List Partition → Type 0
NamesPartitionsBy profile volume last partitions = (l : Layout) × (layout_by profile (complete volume last) last ≡ found l) × (l.partitions ≡ partitions)

-- the same by the strict rules
abbrev pub NamesPartitions : Volume → ℕ → List Partition → Type 0
NamesPartitions = NamesPartitionsBy Strict

-- a lawful volume with these partitions, and a file below its root
abbrev pub IsLawfulWithBy : Profile → List Partition → Type 0
IsLawfulWithBy profile partitions = (volume : Volume) × (last : ℕ) × IsLawfulBy profile volume last × NamesPartitionsBy profile volume last partitions
    × ((name : List ℕ) × (file : TreeFile) × IsInVolumeBy profile volume last (name ∷ []) file)

-- the same by the strict rules
abbrev pub IsLawfulWith : List Partition → Type 0
IsLawfulWith = IsLawfulWithBy Strict

-- there are such volumes with a partition of type 1, with a sparable one, and with one of each
abbrev pub SomeLawful : Type 0
SomeLawful = (maps : Maps) → IsLawfulWith (sample_partitions maps)

-- there are such volumes by the rules of a profile
abbrev pub SomeLawfulBy : Profile → Type 0
SomeLawfulBy profile = (maps : Maps) → IsLawfulWithBy profile (sample_partitions maps)

-- ---- the bytes that are written
-- the bytes of a file, without the blocks in which they are recorded
abbrev pub file_bytes : TreeFile → List ℕ
file_bytes file = map (λ x. x.0) file.body

-- of every lawful volume with which the table agrees: this is done with the bytes of the file of its tree that is at the
-- node's path and is told so, by these rules
abbrev pub WritesFileBy : Profile → Blocks → ℕ → NodeFields → (List ℕ → Type 0) → Type 0
WritesFileBy profile blocks last n Writes = (volume : Volume) → IsLawfulBy profile volume last → Agrees blocks volume last
    → (file : TreeFile) × IsInVolumeBy profile volume last n.path file × IsToldAs profile n file × Writes (file_bytes file)

-- the same by the strict rules
abbrev pub WritesFile : Blocks → ℕ → NodeFields → (List ℕ → Type 0) → Type 0
WritesFile = WritesFileBy Strict

-- These bytes are the file's outside the runs, and this byte in them.
pub record AreFilled (runs : List (ℕ × ℕ)) (fill : ℕ) (file out : List ℕ) : Type 0 where
  pub size : length out ≡ length file
  pub outside : (k : ℕ) → ¬ IsInRuns runs k → slice_get out k ≡ slice_get file k
  pub inside : (k : ℕ) → IsInRuns runs k → slice_get out k ≡ Some fill

-- of every lawful volume with which the table agrees: this is done with the bytes of the file of its tree that is at the
-- node's path and is told so, by these rules, with the node's holes filled with this byte
abbrev pub FillsFileBy : Profile → Blocks → ℕ → NodeFields → ℕ → (List ℕ → Type 0) → Type 0
FillsFileBy profile blocks last n fill Writes = (volume : Volume) → IsLawfulBy profile volume last → Agrees blocks volume last
    → (file : TreeFile) × IsInVolumeBy profile volume last n.path file × IsToldAs profile n file × ((bytes : List ℕ) × AreFilled (holes_of n.standing) fill (file_bytes file) bytes × Writes bytes)

-- the same by the strict rules
abbrev pub FillsFile : Blocks → ℕ → NodeFields → ℕ → (List ℕ → Type 0) → Type 0
FillsFile = FillsFileBy Strict
