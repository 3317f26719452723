-- What lost trees say of a lawful volume with which the table agrees, whether it opens or not.
--     PlacesAreTheVolumes        the layout and the places are the volume's, or a group of blocks is unread, whatever the file set says
--     FoundTreesAreTheVolumes     each tree is the part of the volume's tree below its folder
use Rattle.std.specs.Prelude.{◌≡◌, ◌⊎◌, ℕ, Bool, List, Some, Contains, map}
use Rattle.udfs_lattice.specs.Volumes.{Blocks, Volume, Agrees, complete}
use Rattle.udfs_volume.specs.Answers.{Answer, found, holes, faulty}
use Rattle.udfs_volume.specs.Laws.{IsSequenceGroup, ListsGroup, valid_anchors}
use Rattle.udfs_volume.specs.Sequence.{anchor_places}
use Rattle.udfs_volume.specs.declared.profiles.Profile.{Profile}
use Rattle.udfs_space.specs.Laws.{IsSparingGroup}
use Rattle.udfs_space.specs.Places.{view}
use Rattle.udfs_space.specs.Standard.{standard_space}
use Rattle.udfs_walk.specs.Bare.{full_node}
use Rattle.udfs_lost.specs.PlacedVolumes.{Placed, placed_by}
use Rattle.udfs_lost.specs.Subtrees.{IsFolderAt, TellsBelow}
use Rattle.udfs_lost.specs.declared.trees.LostTree.{LostTree}
use Rattle.udfs_salvage.specs.Found.{Found}
use Rattle.udfs_salvage.specs.Laws.{IsLawfulVolumeBy}
use Rattle.udfs_salvage.specs.Reports.{Report, IsReportBy}
use Rattle.udfs_salvage.specs.VolumeTrees.{IsLawfulBy, IsOpenedBy, Opened}
use Rattle.udfs_overview.specs.LostTrees.{AreLost}
use Rattle.udfs_overview.specs.Searched.{Searched, searched}

-- a group of blocks of which one has to be known: one of the layout, or one of the sparing tables
abbrev pub IsPlaceGroup : Volume → ℕ → Found → List ℕ → Type 0
IsPlaceGroup volume last all group = IsSequenceGroup volume last group ⊎ IsSparingGroup all.layout.partitions group

-- what is found is the volume's, or the listed blocks hold a group of which none is known; no fault is found
abbrev pub IsPlacedAs : Volume → Blocks → ℕ → Found → Answer Placed → Type 0
IsPlacedAs volume blocks last all (found p) = (p.layout ≡ all.layout) × (p.space ≡ all.space)
IsPlacedAs volume blocks last all (holes listed) = ListsGroup blocks (valid_anchors volume last) (anchor_places last) (IsPlaceGroup volume last all) listed
IsPlacedAs volume blocks last all (faulty fault) = ⊥

-- of every lawful volume that agrees
abbrev pub PlacesAreTheVolumes : Type 0
PlacesAreTheVolumes = (profile : Profile) (blocks : Blocks) (volume : Volume) (last : ℕ) (lawful : IsLawfulVolumeBy profile volume last) → Agrees blocks volume last
    → IsPlacedAs volume blocks last lawful.found_is (placed_by profile blocks last)

-- For each directory of a lawful volume's tree: where it is the folder of one of the trees, what is told of that tree's nodes is what the volume has at the
-- directory's path and then theirs.
abbrev pub FoundTreesAreTheVolumes : Type 0
FoundTreesAreTheVolumes = (profile : Profile) (blocks : Blocks) (volume : Volume) (last : ℕ) → IsLawfulBy profile volume last → Agrees blocks volume last
    → (opened : Opened) → IsOpenedBy profile volume last opened → (report : Report) → IsReportBy profile blocks last report
    → (s : Searched) → searched profile blocks last report ≡ Some s → (deleted : Bool) (trees : List LostTree) → AreLost s.view deleted s.entries trees
    → (tree : LostTree) → Contains trees tree → (path : List (List ℕ)) → IsFolderAt opened.blocks opened.root path tree.folder
    → TellsBelow s.view (view (complete volume last) (standard_space volume opened.layout)) opened.blocks opened.root path tree.folder (map (full_node s.view) tree.nodes.items)
