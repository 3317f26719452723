-- What is asked of a tree, by the standard's reading alone.
--     IsSoundTree blocks root      paths lead to files, directories are lists of descriptors, none is inside itself, names differ
--     SoundIsLawful                over a complete view a tree is sound exactly if it is lawful
use Rattle.std.specs.Prelude.{◌≡◌, ◌≢◌, ◌≤◌, ◌↔◌, ℕ, List, ◌∷◌, length, AllPairs, Some, slice_get, Contains}
use Rattle.udfs_tag.specs.declared.layouts.LongAd.{LongAd}
use Rattle.udfs_space.specs.Places.{View}
use Rattle.udfs_file.specs.Complete.{AreShort, HasPartitions, IsComplete}
use Rattle.udfs_file.specs.Fronts.{listed_entries}
use Rattle.udfs_file.specs.Identifiers.{Identifier}
use Rattle.udfs_file.specs.Standard.{IsDirectoryBody}
use Rattle.udfs_file.specs.declared.faults.Kind.TheVariants.{Directory}
use Rattle.udfs_walk.specs.Targets.{icb_of}
use Rattle.udfs_walk.specs.Lawful.{IsLawfulTree}
use Rattle.udfs_walk.specs.Trees.{PartitionBlocks, TreeFile, IsFileAt, IsDirectoryAt, Leads}

-- a path is a list of names
abbrev pub Path : Type 0
Path = List (List ℕ)

-- no path is in the list twice
abbrev pub StandOnce : List Path → Type 0
StandOnce paths = (i j : ℕ) (path : Path) → slice_get paths i ≡ Some path → slice_get paths j ≡ Some path → i ≡ j

-- the path leads from the root to some address
abbrev pub LeadsOn : PartitionBlocks → LongAd → Path → Type 0
LeadsOn blocks root path = (a : LongAd) × Leads blocks root path a

-- the tree from this root is one that the standard allows, with names that differ, and with at most 65,536 paths of at most 64 names
pub record IsSoundTree (blocks : PartitionBlocks) (root : LongAd) : Type 0 where
  -- each path leads to a file: an entry is at the address, and it has a body
  pub files : (path : Path) (a : LongAd) → Leads blocks root path a → (file : TreeFile) × IsFileAt blocks a file
  -- the body of each directory is a list of descriptors of at most 2048 bytes
  pub directories : (path : Path) (a : LongAd) (file : TreeFile) → Leads blocks root path a → IsFileAt blocks a file → file.fields.kind ≡ Directory
      → (ids : List Identifier) × IsDirectoryBody blocks.profile file.body ids × AreShort ids
  -- no directory is inside itself
  pub no_loop : (path : Path) (a b : LongAd) (name : List ℕ) (more : Path) → Leads blocks root path a → Leads blocks a (name ∷ more) b → icb_of b ≢ icb_of a
  -- at most 64 names lead anywhere
  pub depth : (path : Path) (a : LongAd) → Leads blocks root path a → length path ≤ 64
  -- the names in each directory differ
  pub names : (path : Path) (a : LongAd) (ids : List Identifier) → Leads blocks root path a → IsDirectoryAt blocks a ids
      → AllPairs (λ d e. d.name ≢ e.name) (listed_entries ids)
  -- at most 65,536 paths lead anywhere
  pub few : (paths : List Path) → StandOnce paths → ((path : Path) → Contains paths path → LeadsOn blocks root path) → length paths ≤ 65536

-- over a complete view whose places are in its partitions, a tree is sound exactly if it is lawful
abbrev pub SoundIsLawful : Type 0
SoundIsLawful = (all : View) (blocks : PartitionBlocks) → IsComplete all blocks → HasPartitions all → (root : LongAd) → IsSoundTree blocks root ↔ IsLawfulTree all root
