-- Over a complete partition the model's reading is the standard's.
--     IsComplete view blocks         each block that has a place is known, and these are its bytes
--     FileSetLaw                 the file set names the root that the standard reads
--     BodyLaw                     a body without a fault is the one that the standard reads
--     DirectoryLaw                a directory without a fault is the one list that the standard reads
--     NeverStops                  a directory that is all there is not ended by a missing block
--     ReadsLaw                    `directory_by` gives the only reading that there is
--     StandardBodies, StandardDirectories     back: what the standard reads has no fault
use Rattle.std.specs.Prelude.{◌≡◌, ◌≢◌, ◌<◌, ◌≤◌, ℕ, List, length, map, Some, None, ◌↔◌, Contains}
use Rattle.udfs_volume.specs.Sequence.{Bytes}
use Rattle.udfs_lattice.specs.declared.facts.Fact.TheVariants.{Known}
use Rattle.udfs_space.specs.Places.{View}
use Rattle.udfs_file.specs.Entries.{EntryFields}
use Rattle.udfs_file.specs.Bodies.{cells, body}
use Rattle.udfs_file.specs.declared.cells.Cell.{Cell}
use Rattle.udfs_file.specs.declared.cells.Cell.TheVariants.{Byte}
use Rattle.udfs_volume.specs.declared.profiles.Profile.{Profile}
use Rattle.udfs_file.specs.Fronts.{ReadsBy, directory_by}
use Rattle.udfs_file.specs.Identifiers.{Identifier}
use Rattle.udfs_file.specs.Identifiers.{Rest}
use Rattle.udfs_file.specs.Identifiers.{Nothing, Stopped}
use Rattle.udfs_tag.specs.declared.layouts.LongAd.{LongAd}
use Rattle.udfs_volume.specs.Answers.{found}
use Rattle.udfs_file.specs.Addresses.{file_set}
use Rattle.udfs_file.specs.Standard.{PartitionBlocks, Located, IsFileSetAt, IsBodyOf, IsDirectoryBody}

-- the blocks of a view of which each block that has a place is known, and is whole; both are read by the same rules
pub record IsComplete (all : View) (blocks : PartitionBlocks) : Type 0 where
  pub nowhere : (r b : ℕ) → all.place r b ≡ None → blocks.at r b ≡ None
  pub there : (r b n : ℕ) → all.place r b ≡ Some n
      → (bytes : Bytes) × (all.blocks n ≡ Known bytes) × (blocks.at r b ≡ Some bytes) × (length bytes ≡ 2048)
  pub profile : blocks.profile ≡ all.profile

-- a byte of the standard's, as a cell
abbrev pub as_cell : Located → Cell
as_cell x = Byte x.0 x.1

-- the standard's bytes, as cells
abbrev pub as_cells : List Located → List Cell
as_cells xs = map as_cell xs

-- these cells are the bytes of one body, and the standard reads that body alone
pub record IsReadBody (blocks : PartitionBlocks) (r b : ℕ) (entry : EntryFields) (cs : List Cell) : Type 0 where
  pub whole : List Located
  pub is : cs ≡ as_cells whole
  pub reads : IsBodyOf blocks r b entry whole
  pub only : (other : List Located) → IsBodyOf blocks r b entry other → other ≡ whole

-- the standard reads this root from the file set at the address, and no other
pub record IsReadFileSet (blocks : PartitionBlocks) (a root : LongAd) : Type 0 where
  pub reads : IsFileSetAt blocks a root
  pub only : (other : LongAd) → IsFileSetAt blocks a other → other ≡ root

-- over a complete view the root's address is the one that the standard reads
abbrev pub FileSetLaw : Type 0
FileSetLaw = (all : View) (blocks : PartitionBlocks) → IsComplete all blocks → (a root : LongAd)
    → file_set all a ≡ found root → IsReadFileSet blocks a root

-- over a complete view a body without a fault is the one that the standard reads
abbrev pub BodyLaw : Type 0
BodyLaw = (all : View) (blocks : PartitionBlocks) → IsComplete all blocks → (r b : ℕ) (entry : EntryFields)
    (cs : List Cell) → body all r b entry ≡ cells cs → IsReadBody blocks r b entry cs

-- the descriptors and the rest are those that the cells read as, and no others
abbrev pub ReadsLaw : Type 0
ReadsLaw = (profile : Profile) (cs : List Cell) (ids : List Identifier) (rest : Rest)
    → ReadsBy profile cs ids rest ↔ (((directory_by profile cs).identifiers ≡ ids) × ((directory_by profile cs).rest ≡ rest))

-- where all cells are there, no missing block ends a directory
abbrev pub NeverStops : Type 0
NeverStops = (profile : Profile) (whole : List Located) (n : ℕ) → (directory_by profile (as_cells whole)).rest ≢ Stopped n

-- these descriptors are those of a directory's body, and no others are
pub record IsReadDirectory (profile : Profile) (whole : List Located) (ids : List Identifier) : Type 0 where
  pub reads : IsDirectoryBody profile whole ids
  pub only : (other : List Identifier) → IsDirectoryBody profile whole other → other ≡ ids

-- a directory without a fault, all of whose bytes are there, is the one that the standard reads
abbrev pub DirectoryLaw : Type 0
DirectoryLaw = (profile : Profile) (whole : List Located) → (directory_by profile (as_cells whole)).rest ≡ Nothing
    → IsReadDirectory profile whole (directory_by profile (as_cells whole)).identifiers

-- what has a place is in a partition that there is
abbrev pub HasPartitions : View → Type 0
HasPartitions all = (r b n : ℕ) → all.place r b ≡ Some n → r < all.partitions

-- back: a body that the standard reads has no fault, and is the one by the definition
abbrev pub StandardBodies : Type 0
StandardBodies = (all : View) (blocks : PartitionBlocks) → IsComplete all blocks → HasPartitions all → (r b : ℕ) (entry : EntryFields)
    (whole : List Located) → IsBodyOf blocks r b entry whole → body all r b entry ≡ cells (as_cells whole)

-- no descriptor is longer than a block (own choice)
abbrev pub AreShort : List Identifier → Type 0
AreShort ids = (id : Identifier) → Contains ids id → id.size ≤ 2048

-- every descriptor that is read is that short
abbrev pub DescriptorsAreShort : Type 0
DescriptorsAreShort = (profile : Profile) (cs : List Cell) → AreShort (directory_by profile cs).identifiers

-- and a directory whose body is a list of descriptors has no fault, and lists these
abbrev pub StandardDirectories : Type 0
StandardDirectories = (profile : Profile) (whole : List Located) (ids : List Identifier) → IsDirectoryBody profile whole ids → AreShort ids
    → ((directory_by profile (as_cells whole)).identifiers ≡ ids) × ((directory_by profile (as_cells whole)).rest ≡ Nothing)
