-- Over a part of a complete view, what is reported of nodes is what the tree has.
--     CompleteNodes     over the complete view the nodes are those of the tree, all whole
--     PartialNodes      over a part each node is one of the tree, and what is whole is the tree's
--     OncePerPath       and no two nodes of a part have one path
--     FewerRoutes       a part has no more routes than the whole
--     OneFile           a path leads to one file
--     RootInTree        the root is a file of the tree
--     OneReading        the cells of a node are one list
--     WholeAlike        where a node is whole as two files, what is whole as the one is whole as the other
use Rattle.std.specs.Prelude.{◌≡◌, ◌⊎◌, ℕ, List, [], Some, slice_get}
use Rattle.udfs_tag.specs.declared.layouts.LongAd.{LongAd}
use Rattle.udfs_space.specs.Places.{View, IsPartOf}
use Rattle.udfs_file.specs.Complete.{IsComplete}
use Rattle.udfs_file.specs.declared.cells.Cell.{Cell}
use Rattle.udfs_walk.specs.NodeFields.{NodeFields}
use Rattle.udfs_walk.specs.Routes.{HasMoreRoutes}
use Rattle.udfs_walk.specs.Walks.{AreNodes}
use Rattle.udfs_walk.specs.declared.standings.Standing.TheVariants.{Whole}
use Rattle.udfs_walk.specs.Trees.{PartitionBlocks, TreeFile, InTree}
use Rattle.udfs_walk.specs.Needs.{IsMet}
use Rattle.udfs_walk.specs.Lawful.{IsLawfulTree}
use Rattle.udfs_walk.specs.Cells.{HasCellsAt, HasNoFault, IsUntold, IsTornAs, IsWholeAs}

-- the node at this place in the list is whole, as the tree has it
abbrev pub IsWholeNode : View → PartitionBlocks → LongAd → ℕ → NodeFields → Type 0
IsWholeNode v blocks root index n = (file : TreeFile) × (cs : List Cell) × InTree blocks root n.path file
    × HasCellsAt v root index cs × IsWholeAs v.profile n file cs

-- no two nodes of the list have one path
abbrev pub HasPathsOnce : List NodeFields → Type 0
HasPathsOnce nodes = (i j : ℕ) (m n : NodeFields) → slice_get nodes i ≡ Some m → slice_get nodes j ≡ Some n → m.path ≡ n.path → i ≡ j

-- the nodes are those of the tree, each once, all whole
pub record AreTheTree (all : View) (blocks : PartitionBlocks) (root : LongAd) (nodes : List NodeFields) : Type 0 where
  pub in_tree : (index : ℕ) (n : NodeFields) → slice_get nodes index ≡ Some n → IsWholeNode all blocks root index n
  pub is_listed : (path : List (List ℕ)) (file : TreeFile) → InTree blocks root path file
      → (index : ℕ) × (n : NodeFields) × (cs : List Cell) × (slice_get nodes index ≡ Some n) × (n.path ≡ path)
      × HasCellsAt all root index cs × IsWholeAs all.profile n file cs
  pub once : HasPathsOnce nodes

-- over a complete view with a lawful tree the nodes are the tree, each file once, all whole
abbrev pub CompleteNodes : Type 0
CompleteNodes = (all : View) (blocks : PartitionBlocks) → IsComplete all blocks → (root : LongAd) → IsLawfulTree all root
    → (nodes : List NodeFields) → AreNodes all root nodes → AreTheTree all blocks root nodes

-- the node's entry was not read, or it is told as the file, by the view's rules, and the bytes outside its holes are the file's
abbrev pub IsTold : View → LongAd → ℕ → NodeFields → TreeFile → Type 0
IsTold v root index n file = IsUntold n ⊎ ((cs : List Cell) × HasCellsAt v root index cs × IsTornAs v.profile n file cs)

-- Of the node at this place in the list: it is one of the tree at its path, with no fault and no loop, and `IsTold` of
-- its file; and if it is whole, all bytes are the tree's, and each group that it needs has a known block.
pub record IsNodeOf (some all : View) (blocks : PartitionBlocks) (root : LongAd) (index : ℕ) (n : NodeFields) : Type 0 where
  pub file : TreeFile
  pub in_tree : InTree blocks root n.path file
  pub no_fault : HasNoFault n
  pub told : IsTold some root index n file
  pub whole : n.standing ≡ Whole → ((cs : List Cell) × HasCellsAt some root index cs × IsWholeAs some.profile n file cs) × IsMet some all blocks root n.path

-- over a part of it each node is a file of the tree, as `IsNodeOf` says
abbrev pub PartialNodes : Type 0
PartialNodes = (some all : View) (blocks : PartitionBlocks) → IsPartOf some all → IsComplete all blocks → (root : LongAd) → IsLawfulTree all root
    → (nodes : List NodeFields) → AreNodes some root nodes → (index : ℕ) (n : NodeFields) → slice_get nodes index ≡ Some n → IsNodeOf some all blocks root index n

-- no two nodes have one path
abbrev pub OncePerPath : Type 0
OncePerPath = (some all : View) (blocks : PartitionBlocks) → IsPartOf some all → IsComplete all blocks → (root : LongAd) → IsLawfulTree all root
    → (nodes : List NodeFields) → AreNodes some root nodes → HasPathsOnce nodes

-- a part has no more routes than the whole
abbrev pub FewerRoutes : Type 0
FewerRoutes = (some all : View) (blocks : PartitionBlocks) → IsPartOf some all → IsComplete all blocks → (root : LongAd) → IsLawfulTree all root
    → (count : ℕ) → HasMoreRoutes some root count → HasMoreRoutes all root count

-- a path of a lawful tree leads to one file
abbrev pub OneFile : Type 0
OneFile = (all : View) (blocks : PartitionBlocks) → IsComplete all blocks → (root : LongAd) → IsLawfulTree all root
    → (path : List (List ℕ)) (file other : TreeFile) → InTree blocks root path file → InTree blocks root path other → other ≡ file

-- the root of a lawful tree is a file of it
abbrev pub RootInTree : Type 0
RootInTree = (all : View) (blocks : PartitionBlocks) → IsComplete all blocks → (root : LongAd) → IsLawfulTree all root
    → (file : TreeFile) × InTree blocks root [] file

-- the cells of the node at a place of the list are one list
abbrev pub OneReading : Type 0
OneReading = (v : View) (root : LongAd) (index : ℕ) (cs ds : List Cell) → HasCellsAt v root index cs → HasCellsAt v root index ds → cs ≡ ds

-- where a node is whole as two files, whatever is whole as the one is whole as the other
abbrev pub WholeAlike : Type 0
WholeAlike = (v : View) (root : LongAd) (index : ℕ) (n : NodeFields) (file other : TreeFile) (cs ds : List Cell)
    → HasCellsAt v root index cs → HasCellsAt v root index ds → IsWholeAs v.profile n file cs → IsWholeAs v.profile n other ds
    → (m : NodeFields) (es : List Cell) → IsWholeAs v.profile m other es → IsWholeAs v.profile m file es
