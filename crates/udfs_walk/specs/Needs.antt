-- The blocks that have to be known for a node of the tree, as groups of which one has to be known.
--     Needs all blocks root path group      the ICBs on the way, the directories up to the next name, the body
--     HasKnown known group                  one of the group is known
--     IsMet some all blocks root path       one of each group is known
use Rattle.std.specs.Prelude.{◌≡◌, ℕ, ◌<◌, List, [], ◌∷◌, ◌++◌, Some, Contains}
use Rattle.udfs_lattice.specs.Volumes.{Blocks, IsKnownAt}
use Rattle.udfs_tag.specs.declared.layouts.LongAd.{LongAd}
use Rattle.udfs_space.specs.Places.{View}
use Rattle.udfs_file.specs.Bodies.{IsNeededFor}
use Rattle.udfs_file.specs.Laws.{descriptor_end}
use Rattle.udfs_file.specs.declared.directories.DirEntry.{DirEntry}
use Rattle.udfs_file.specs.Identifiers.{Identifier}
use Rattle.udfs_walk.specs.Trees.{PartitionBlocks, TreeFile, IsFileAt, IsDirectoryAt, Leads}

-- the block at an address, as a group of one
abbrev pub IsBlockAt : View → LongAd → List ℕ → Type 0
IsBlockAt all a group = (n : ℕ) × (all.place a.reference a.block ≡ Some n) × (group ≡ n ∷ [])

-- the ICB of a directory on the way, or of the node itself
pub record IsIcbOnWay (all : View) (blocks : PartitionBlocks) (root : LongAd) (path : List (List ℕ)) (group : List ℕ) : Type 0 where
  pub before : List (List ℕ)
  pub after : List (List ℕ)
  pub is_way : path ≡ before ++ after
  pub address : LongAd
  pub leads : Leads blocks root before address
  pub is : IsBlockAt all address group

-- the descriptor with this name ends at this cell
pub record EndsAt (ids : List Identifier) (name : List ℕ) (end : ℕ) : Type 0 where
  pub front : List Identifier
  pub id : Identifier
  pub back : List Identifier
  pub splits : ids ≡ front ++ id ∷ back
  pub entry : DirEntry
  pub is_listed : id.listed ≡ Some entry
  pub named : entry.name ≡ name
  pub is : end ≡ descriptor_end front id

-- a block that a directory on the way needs for a cell before the end of the descriptor with the next name
pub record IsDirectoryBlock (all : View) (blocks : PartitionBlocks) (root : LongAd) (path : List (List ℕ)) (group : List ℕ) : Type 0 where
  pub before : List (List ℕ)
  pub name : List ℕ
  pub after : List (List ℕ)
  pub is_way : path ≡ before ++ name ∷ after
  pub address : LongAd
  pub leads : Leads blocks root before address
  pub ids : List Identifier
  pub is_directory : IsDirectoryAt blocks address ids
  pub end : ℕ
  pub ends : EndsAt ids name end
  pub cell : ℕ
  pub is_before : cell < end
  pub block : ℕ
  pub needed : IsNeededFor all address.reference is_directory.file.fields cell block
  pub is : group ≡ block ∷ []

-- a block that the node's own body needs for some cell
pub record IsBodyBlock (all : View) (blocks : PartitionBlocks) (root : LongAd) (path : List (List ℕ)) (group : List ℕ) : Type 0 where
  pub address : LongAd
  pub leads : Leads blocks root path address
  pub file : TreeFile
  pub is_file : IsFileAt blocks address file
  pub cell : ℕ
  pub block : ℕ
  pub needed : IsNeededFor all address.reference file.fields cell block
  pub is : group ≡ block ∷ []

-- a group that the node of this path needs; each has one block
pub data Needs (all : View) (blocks : PartitionBlocks) (root : LongAd) (path : List (List ℕ)) (group : List ℕ) : Type 0 where
  for_icb : IsIcbOnWay all blocks root path group → Needs all blocks root path group
  for_way : IsDirectoryBlock all blocks root path group → Needs all blocks root path group
  for_body : IsBodyBlock all blocks root path group → Needs all blocks root path group

-- a block of the group is known
abbrev pub HasKnown : Blocks → List ℕ → Type 0
HasKnown known group = (n : ℕ) × Contains group n × IsKnownAt known n

-- of each group that the node needs, a block is known in the part
abbrev pub IsMet : View → View → PartitionBlocks → LongAd → List (List ℕ) → Type 0
IsMet some all blocks root path = (group : List ℕ) → Needs all blocks root path group → HasKnown some.blocks group
