-- What the standard reads of a volume from its complete bytes: the first valid anchor, the main sequence alone, the
-- first sparing table, the file set, and from its root the tree.
--     IsOpenedBy profile volume last opened     what the standard opens, by the rules of a profile
--     IsInVolumeBy profile volume last path file   the path leads from the root to this file
--     IsLawfulBy profile volume last            what is required of a volume, in the standard's terms
--     LawfulIsWholeBy profile                   the same by the nodes of the complete volume: exactly then all are whole
--     IsNeededIn profile volume last path group    blocks of which one has to be known for the node of this path
--     IsMetBy profile blocks volume last path   one of each is known
-- IsOpened, IsInVolume, IsLawful and LawfulIsWhole are these by the strict rules.
use Rattle.std.specs.Prelude.{◌≡◌, ◌↔◌, ℕ, List, Some}
use Rattle.udfs_volume.specs.declared.profiles.Profile.{Profile}
use Rattle.udfs_volume.specs.declared.profiles.Profile.TheVariants.{Strict}
use Rattle.udfs_lattice.specs.Volumes.{Blocks, Volume, complete}
use Rattle.udfs_tag.specs.declared.layouts.LongAd.{LongAd}
use Rattle.udfs_volume.specs.Answers.{found}
use Rattle.udfs_volume.specs.Layout.{Layout}
use Rattle.udfs_volume.specs.Standard.{standard_anchor, standard_layout_by}
use Rattle.udfs_space.specs.Laws.{AreBlocksOf}
use Rattle.udfs_space.specs.Places.{view}
use Rattle.udfs_space.specs.Standard.{standard_space}
use Rattle.udfs_file.specs.Standard.{IsFileSetAt}
use Rattle.udfs_walk.specs.Trees.{PartitionBlocks, TreeFile, InTree}
use Rattle.udfs_walk.specs.Needs.{Needs, HasKnown}
use Rattle.udfs_walk.specs.Lawful.{IsLawfulTree}
use Rattle.udfs_walk.specs.Sound.{IsSoundTree}
use Rattle.udfs_salvage.specs.Found.{Found}
use Rattle.udfs_salvage.specs.Laws.{IsLawfulVolumeBy, IsVolumeGroup}

-- a volume as the standard opens it: its layout, the blocks of its partitions, and the address of the root's ICB
pub record Opened : Type 0 where
  pub layout : Layout
  pub blocks : PartitionBlocks
  pub root : LongAd

-- the layout of the main sequence that the first valid anchor names; each logical block is the block that holds it by the
-- first sparing table; last extents are read as the layout says; and the root is named by the file set
pub record IsOpenedBy (profile : Profile) (volume : Volume) (last : ℕ) (opened : Opened) : Type 0 where
  pub anchor : ℕ
  pub is_anchor : standard_anchor volume last ≡ Some anchor
  pub layout_is : standard_layout_by profile volume last anchor ≡ found opened.layout
  pub reads : AreBlocksOf volume (standard_space volume opened.layout) opened.blocks.at
  pub rules : opened.blocks.profile ≡ opened.layout.profile
  pub root_is : IsFileSetAt opened.blocks opened.layout.file_set opened.root

-- the same by the strict rules
abbrev pub IsOpened : Volume → ℕ → Opened → Type 0
IsOpened = IsOpenedBy Strict

-- the path leads from the root of the volume to this file
abbrev pub IsInVolumeBy : Profile → Volume → ℕ → List (List ℕ) → TreeFile → Type 0
IsInVolumeBy profile volume last path file = (opened : Opened) × IsOpenedBy profile volume last opened × InTree opened.blocks opened.root path file

-- the same by the strict rules
abbrev pub IsInVolume : Volume → ℕ → List (List ℕ) → TreeFile → Type 0
IsInVolume = IsInVolumeBy Strict

-- Anchors and copies say the same; and the tree of what the standard opens is sound: each path leads to a file, each directory is a list
-- of descriptors of at most 2048 bytes, none lies in itself, the names of each differ, and there are at most 65,536 paths of at most 64 names.
pub record IsLawfulBy (profile : Profile) (volume : Volume) (last : ℕ) : Type 0 where
  pub is_volume : IsLawfulVolumeBy profile volume last
  pub opened : Opened
  pub is_opened : IsOpenedBy profile volume last opened
  pub tree : IsSoundTree opened.blocks opened.root

-- the same by the strict rules
abbrev pub IsLawful : Volume → ℕ → Type 0
IsLawful = IsLawfulBy Strict

-- Anchors and copies say the same; and the complete volume has no fault, each of its nodes is whole, the names in each directory differ, and at most
-- 65,536 routes lead anywhere.
pub record AllIsWhole (profile : Profile) (volume : Volume) (last : ℕ) : Type 0 where
  pub is_volume : IsLawfulVolumeBy profile volume last
  pub tree : IsLawfulTree (view (complete volume last) is_volume.found_is.space) is_volume.found_is.root

-- a volume is lawful exactly if it is as `AllIsWhole` says of the nodes with all of it known
abbrev pub LawfulIsWholeBy : Profile → Type 0
LawfulIsWholeBy profile = (volume : Volume) (last : ℕ) → IsLawfulBy profile volume last ↔ AllIsWhole profile volume last

-- the same by the strict rules
abbrev pub LawfulIsWhole : Type 0
LawfulIsWhole = LawfulIsWholeBy Strict

-- the layout, the places and the root of an opened volume
abbrev pub found_of : Volume → Opened → Found
found_of volume opened = record { layout = opened.layout; space = standard_space volume opened.layout; root = opened.root }

-- a group of blocks that the node of a path needs: one of the volume, or one of the tree
pub data NeedsOf (volume : Volume) (last : ℕ) (opened : Opened) (path : List (List ℕ)) (group : List ℕ) : Type 0 where
  for_volume : IsVolumeGroup volume last (found_of volume opened) group → NeedsOf volume last opened path group
  for_node : Needs (view (complete volume last) (standard_space volume opened.layout)) opened.blocks opened.root path group → NeedsOf volume last opened path group

-- the group is one of which a file or directory at this path needs a block
abbrev pub IsNeededIn : Profile → Volume → ℕ → List (List ℕ) → List ℕ → Type 0
IsNeededIn profile volume last path group = (opened : Opened) × IsOpenedBy profile volume last opened × NeedsOf volume last opened path group

-- of each group that the node of this path needs, a block is known
abbrev pub IsMetBy : Profile → Blocks → Volume → ℕ → List (List ℕ) → Type 0
IsMetBy profile blocks volume last path = (group : List ℕ) → IsNeededIn profile volume last path group → HasKnown blocks group
