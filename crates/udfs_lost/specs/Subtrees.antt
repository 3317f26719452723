-- A directory of the tree of a volume, read by itself as a lost folder.
--     IsFolderAt blocks root path icb      the path leads to a directory, which is at this information control block
--     SubtreeIsLawful                      the tree from there is lawful where the volume's is
--     SubtreeIsBelow                       it is the part of the volume's tree below the path
--     NeededBelow                          what a node needs from the folder on, it needs in the volume's tree
--     LostTreesTell                        what the lost tree says of the volume's
--     LostTreesFit                         it has no more routes than a tree may have
--     LostTreesReach                       and what names lead to from the folder is in it
use Rattle.std.specs.Prelude.{◌≡◌, ◌↔◌, ℕ, List, ◌++◌, Some, slice_get, Contains}
use Rattle.udfs_tag.specs.declared.layouts.LongAd.{LongAd}
use Rattle.udfs_space.specs.Places.{View, IsPartOf}
use Rattle.udfs_file.specs.Complete.{HasPartitions, IsComplete}
use Rattle.udfs_file.specs.Identifiers.{Identifier}
use Rattle.udfs_file.specs.declared.cells.Cell.{Cell}
use Rattle.udfs_walk.specs.NodeFields.{NodeFields}
use Rattle.udfs_walk.specs.Routes.{HasMoreRoutes}
use Rattle.udfs_walk.specs.Targets.{Icb, icb_of}
use Rattle.udfs_walk.specs.UnnamedEntries.{address_of}
use Rattle.udfs_walk.specs.Walks.{AreNodes}
use Rattle.udfs_walk.specs.declared.standings.Standing.TheVariants.{Whole}
use Rattle.udfs_walk.specs.Cells.{HasCellsAt, HasNoFault, IsWholeAs}
use Rattle.udfs_walk.specs.KnownLaws.{IsListedWhole}
use Rattle.udfs_walk.specs.TreeLaws.{HasPathsOnce, IsTold}
use Rattle.udfs_walk.specs.Lawful.{IsLawfulTree}
use Rattle.udfs_walk.specs.Needs.{IsMet, Needs}
use Rattle.udfs_walk.specs.Sound.{Path}
use Rattle.udfs_walk.specs.Trees.{PartitionBlocks, TreeFile, IsDirectoryAt, InTree, Leads}
use Rattle.udfs_lost.specs.Naming.{LeadsTo}

-- the path leads from the root to a directory, whose entry is at this information control block
pub record IsFolderAt (blocks : PartitionBlocks) (root : LongAd) (path : Path) (icb : Icb) : Type 0 where
  pub address : LongAd
  pub leads : Leads blocks root path address
  pub ids : List Identifier
  pub is_directory : IsDirectoryAt blocks address ids
  pub is : icb_of address ≡ icb

-- for each directory of a lawful tree, over a complete view whose places are in its partitions
abbrev pub OverFolders : (View → PartitionBlocks → LongAd → Path → Icb → Type 0) → Type 0
OverFolders Holds = (all : View) (blocks : PartitionBlocks) → IsComplete all blocks → HasPartitions all → (root : LongAd) → IsLawfulTree all root
    → (path : Path) (icb : Icb) → IsFolderAt blocks root path icb → Holds all blocks root path icb

-- the tree from a directory of a lawful tree is lawful
abbrev pub SubtreeIsLawful : Type 0
SubtreeIsLawful = OverFolders (λ all blocks root path icb. IsLawfulTree all (address_of icb))

-- a file is in the tree from the directory exactly if it is in the volume's at the directory's path and then its own
abbrev pub SubtreeIsBelow : Type 0
SubtreeIsBelow = OverFolders (λ all blocks root path icb. (more : Path) (file : TreeFile)
    → InTree blocks (address_of icb) more file ↔ InTree blocks root (path ++ more) file)

-- a group of blocks that a node needs from the directory on is one that it needs
abbrev pub NeededBelow : Type 0
NeededBelow = OverFolders (λ all blocks root path icb. (more : Path) (group : List ℕ)
    → Needs all blocks (address_of icb) more group → Needs all blocks root (path ++ more) group)

-- the node at this place of a lost tree's list is whole as this file, and of each group that it needs from the folder on one block is known
pub record IsWholeBelow (some all : View) (blocks : PartitionBlocks) (icb : Icb) (index : ℕ) (n : NodeFields) (file : TreeFile) : Type 0 where
  pub cs : List Cell
  pub has_cells : HasCellsAt some (address_of icb) index cs
  pub is_whole : IsWholeAs some.profile n file cs
  pub met : IsMet some all blocks (address_of icb) n.path

-- Of the node at this place of a lost tree's list: it is that of the volume's tree at the folder's path and then its own, with no
-- fault and no loop. Its entry was not read, or it has the tree's kind, size and stamp, and the tree's bytes outside its holes. If
-- it is whole, all bytes are the tree's, and all that it needs from the folder on is known.
pub record IsNodeBelow (some all : View) (blocks : PartitionBlocks) (root : LongAd) (path : Path) (icb : Icb) (index : ℕ) (n : NodeFields) : Type 0 where
  pub file : TreeFile
  pub in_tree : InTree blocks root (path ++ n.path) file
  pub no_fault : HasNoFault n
  pub told : IsTold some (address_of icb) index n file
  pub whole : n.standing ≡ Whole → IsWholeBelow some all blocks icb index n file

-- What the tree of a lost folder says of the volume's, where this is the path of the folder.
pub record TellsBelow (some all : View) (blocks : PartitionBlocks) (root : LongAd) (path : Path) (icb : Icb) (nodes : List NodeFields) : Type 0 where
  -- each node is one of the volume's tree
  pub each : (index : ℕ) (n : NodeFields) → slice_get nodes index ≡ Some n → IsNodeBelow some all blocks root path icb index n
  -- no two nodes have one path
  pub once : HasPathsOnce nodes
  -- back: what is below the path, and of each group that it needs from the folder on has a known block, is whole
  pub met : (more : Path) (file : TreeFile) → InTree blocks root (path ++ more) file → IsMet some all blocks (address_of icb) more
      → IsListedWhole some (address_of icb) nodes more file

-- for the nodes of the walk from the directory, over any part of the volume
abbrev pub LostTreesTell : Type 0
LostTreesTell = OverFolders (λ all blocks root path icb. (some : View) → IsPartOf some all → (nodes : List NodeFields)
    → AreNodes some (address_of icb) nodes → TellsBelow some all blocks root path icb nodes)

-- and there are no more than 65,536 of them
abbrev pub LostTreesFit : Type 0
LostTreesFit = OverFolders (λ all blocks root path icb. (some : View) → IsPartOf some all → ¬ HasMoreRoutes some (address_of icb) 65536)

-- and what names lead to from the directory is one of them
abbrev pub LostTreesReach : Type 0
LostTreesReach = OverFolders (λ all blocks root path icb. (some : View) → IsPartOf some all → (nodes : List NodeFields) → AreNodes some (address_of icb) nodes
    → (g : Icb) → LeadsTo some icb g → (n : NodeFields) × Contains nodes n × (icb_of n.icb ≡ g))
