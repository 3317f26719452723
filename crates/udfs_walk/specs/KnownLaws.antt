-- Over a part of a complete view with a lawful tree: what is known enough is whole, and what is missing is needed.
--     MetIsWhole         a node of the tree, of each needed group of which a block is known, is listed whole
--     MissingIsWanted    the blocks that are missing in nodes, and those that nodes of the tree want
--     ChosenIsWanted     the same of the nodes of some paths, with those above them
use Rattle.std.specs.Prelude.{◌≡◌, ◌⊎◌, ◌↔◌, ℕ, Bool, true, List, [], ◌++◌, Some, slice_get, Contains}
use Rattle.std.specs.List.{filter}
use Rattle.udfs_lattice.specs.Volumes.{IsUnread}
use Rattle.udfs_tag.specs.declared.layouts.LongAd.{LongAd}
use Rattle.udfs_space.specs.Places.{View, IsPartOf}
use Rattle.udfs_file.specs.Complete.{IsComplete}
use Rattle.udfs_file.specs.declared.cells.Cell.{Cell}
use Rattle.udfs_walk.specs.NodeFields.{NodeFields}
use Rattle.udfs_walk.specs.Rereads.{reread}
use Rattle.udfs_walk.specs.Walks.{AreNodes}
use Rattle.udfs_walk.specs.Trees.{PartitionBlocks, TreeFile, InTree}
use Rattle.udfs_walk.specs.Needs.{Needs, IsMet}
use Rattle.udfs_walk.specs.Lawful.{IsLawfulTree}
use Rattle.udfs_walk.specs.Cells.{HasCellsAt, IsWholeAs}

-- the list has a node with this path that is whole, as the file
abbrev pub IsListedWhole : View → LongAd → List NodeFields → List (List ℕ) → TreeFile → Type 0
IsListedWhole v root nodes path file = (index : ℕ) × (n : NodeFields) × (cs : List Cell) × (slice_get nodes index ≡ Some n) × (n.path ≡ path)
    × HasCellsAt v root index cs × IsWholeAs v.profile n file cs

-- for any lawful tree, of any part of its view, and of the nodes of that part
abbrev pub OverParts : (View → View → PartitionBlocks → LongAd → List NodeFields → Type 0) → Type 0
OverParts Holds = (some all : View) (blocks : PartitionBlocks) → IsPartOf some all → IsComplete all blocks → (root : LongAd) → IsLawfulTree all root
    → (nodes : List NodeFields) → AreNodes some root nodes → Holds some all blocks root nodes

-- where of each needed group a block is known, the file is listed as whole
abbrev pub MetIsWhole : Type 0
MetIsWhole = OverParts (λ some all blocks root nodes. (path : List (List ℕ)) (file : TreeFile) → InTree blocks root path file
    → IsMet some all blocks root path → IsListedWhole some root nodes path file)

-- the node of this path needs the group, and none of it is known
abbrev pub IsWanted : View → View → PartitionBlocks → LongAd → List (List ℕ) → List ℕ → Type 0
IsWanted some all blocks root path group = Needs all blocks root path group × IsUnread some.blocks group

-- these blocks hold all of some group of this sort
abbrev pub HoldsGroup : (List ℕ → Type 0) → List ℕ → Type 0
HoldsGroup IsGroup listed = (group : List ℕ) × IsGroup group × ((n : ℕ) → Contains group n → Contains listed n)

-- these blocks hold all of some group that is wanted for the node of this path
abbrev pub HoldsWanted : View → View → PartitionBlocks → LongAd → List (List ℕ) → List ℕ → Type 0
HoldsWanted some all blocks root path listed = HoldsGroup (IsWanted some all blocks root path) listed

-- What is asked of the blocks to read again, where these are the nodes.
pub record AreWanted (some all : View) (blocks : PartitionBlocks) (root : LongAd) (nodes : List NodeFields) (listed : List ℕ) : Type 0 where
  -- none of them is known
  pub not_known : IsUnread some.blocks listed
  -- each is in a group that is wanted for some node of the tree
  pub each : (n : ℕ) → Contains listed n → (path : List (List ℕ)) × (file : TreeFile) × (group : List ℕ) × InTree blocks root path file
      × IsWanted some all blocks root path group × Contains group n
  -- each node of the tree is listed whole, or all of a group that it wants is among them
  pub whole_or_held : (path : List (List ℕ)) (file : TreeFile) → InTree blocks root path file
      → IsListedWhole some root nodes path file ⊎ HoldsWanted some all blocks root path listed
  -- no block is listed exactly if all of the tree is listed whole
  pub none : (listed ≡ []) ↔ ((path : List (List ℕ)) (file : TreeFile) → InTree blocks root path file → IsListedWhole some root nodes path file)

-- over any part of a lawful tree, the blocks that the nodes lack are as `AreWanted` asks
abbrev pub MissingIsWanted : Type 0
MissingIsWanted = OverParts (λ some all blocks root nodes. AreWanted some all blocks root nodes (reread nodes))

-- ---- of some of the nodes

-- with each path that is chosen all above it are
abbrev pub TakesAbove : (List (List ℕ) → Bool) → Type 0
TakesAbove takes = (path more : List (List ℕ)) → takes (path ++ more) ≡ true → takes path ≡ true

-- the nodes whose paths are chosen
abbrev pub taken : (List (List ℕ) → Bool) → List NodeFields → List NodeFields
taken takes nodes = filter (λ n. takes n.path) nodes

-- What is asked of the blocks to read again for the nodes of the tree whose paths are chosen.
pub record AreWantedOf (takes : List (List ℕ) → Bool) (some all : View) (blocks : PartitionBlocks) (root : LongAd) (nodes : List NodeFields) (listed : List ℕ) : Type 0 where
  -- none of them is known
  pub not_known : IsUnread some.blocks listed
  -- each is in a group that is wanted for some chosen node of the tree
  pub each : (n : ℕ) → Contains listed n → (path : List (List ℕ)) × (file : TreeFile) × (group : List ℕ) × (takes path ≡ true) × InTree blocks root path file
      × IsWanted some all blocks root path group × Contains group n
  -- each chosen node of the tree is listed whole, or all of a group that it wants is among them
  pub whole_or_held : (path : List (List ℕ)) (file : TreeFile) → takes path ≡ true → InTree blocks root path file
      → IsListedWhole some root nodes path file ⊎ HoldsWanted some all blocks root path listed
  -- no block is listed exactly if all chosen nodes of the tree are listed whole
  pub none : (listed ≡ []) ↔ ((path : List (List ℕ)) (file : TreeFile) → takes path ≡ true → InTree blocks root path file → IsListedWhole some root nodes path file)

-- over any part of a lawful tree, the blocks that the chosen nodes lack are as `AreWantedOf` asks
abbrev pub ChosenIsWanted : Type 0
ChosenIsWanted = (takes : List (List ℕ) → Bool) → TakesAbove takes → OverParts (λ some all blocks root nodes. AreWantedOf takes some all blocks root nodes (reread (taken takes nodes)))
