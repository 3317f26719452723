-- What the standard reads from complete blocks: no table, no state, nothing missing. Blocks are given by a partition
-- reference and a logical block, and the root by the address of its ICB.
--     IsFileAt blocks a file            the file at an address: its entry and its body
--     IsDirectoryAt blocks a ids        the descriptors of the directory at an address
--     Leads blocks a path b             a path of names leads from one address to another
--     InTree blocks root path file      the tree: each path with its file
use Rattle.std.specs.Prelude.{◌≡◌, ◌≢◌, ℕ, List, [], ◌∷◌, Some, None, Contains}
use Rattle.udfs_tag.specs.declared.layouts.LongAd.{LongAd}
use Rattle.udfs_volume.specs.Sequence.{Bytes}
use Rattle.udfs_file.specs.Entries.{EntryFields, entry_fault, entry_of}
use Rattle.udfs_file.specs.Fronts.{listed_entries}
use Rattle.udfs_file.specs.Standard as standard
use Rattle.udfs_file.specs.Standard.{Located, IsBodyOf, IsDirectoryBody}
use Rattle.udfs_file.specs.declared.directories.DirEntry.{DirEntry}
use Rattle.udfs_file.specs.Identifiers.{Identifier}
use Rattle.udfs_file.specs.declared.faults.Kind.TheVariants.{Directory}

-- the blocks of the partitions, by partition reference and logical block, and the rules by which a last extent and tags are read
abbrev pub PartitionBlocks : Type 0
PartitionBlocks = standard.PartitionBlocks

-- a file or directory, as the standard reads it
pub record TreeFile : Type 0 where
  pub fields : EntryFields
  pub body : List Located

-- the address is that of a recorded block (4/14.14.2), an entry is there (4/14.9, 4/14.17), and this is its body
pub record IsFileAt (blocks : PartitionBlocks) (a : LongAd) (file : TreeFile) : Type 0 where
  pub recorded : a.kind ≡ 0
  pub not_empty : a.length ≢ 0
  pub bytes : Bytes
  pub block : blocks.at a.reference a.block ≡ Some bytes
  pub sound : entry_fault bytes a.block ≡ None
  pub fields : file.fields ≡ entry_of bytes
  pub body : IsBodyOf blocks a.reference a.block file.fields file.body

-- the file there is a directory, and its body is these descriptors (4/14.4)
pub record IsDirectoryAt (blocks : PartitionBlocks) (a : LongAd) (ids : List Identifier) : Type 0 where
  pub file : TreeFile
  pub is_file : IsFileAt blocks a file
  pub kind : file.fields.kind ≡ Directory
  pub body : IsDirectoryBody blocks.profile file.body ids

-- a path is a list of names; each is that of an entry of the directory before it
abbrev pub Leads : PartitionBlocks → LongAd → List (List ℕ) → LongAd → Type 0
Leads blocks a [] b = a ≡ b
Leads blocks a (name ∷ names) b = (ids : List Identifier) × (e : DirEntry) × IsDirectoryAt blocks a ids
    × Contains (listed_entries ids) e × (e.name ≡ name) × Leads blocks e.icb names b

-- the path leads from the root to this file
pub record InTree (blocks : PartitionBlocks) (root : LongAd) (path : List (List ℕ)) (file : TreeFile) : Type 0 where
  pub address : LongAd
  pub leads : Leads blocks root path address
  pub is_file : IsFileAt blocks address file
