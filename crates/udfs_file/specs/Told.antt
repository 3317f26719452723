-- What the calls report of partitions of which a part is known: of every complete view of which this one is a part.
--     TellsFileSet some a seen           the root of the complete file set, or its block as the one hole
--     TellsBody some r b entry told      each cell of the complete body, or a block that is not known and that it needs
--     TellsBy profile part front         the first entries of the whole directory, up to a missing cell
--     TellsFront part front              the same by the strict rules, the first entries of the whole directory, up to a missing cell
-- What they report of a complete view itself is what the standard reads from its blocks, and nothing else.
use Rattle.std.specs.Prelude.{◌≡◌, ◌↔◌, ◌<◌, ⊤, ℕ, true, false, List, [], ◌∷◌, ◌++◌, length, slice_get, Some, None, Result, Ok, Err}
use Rattle.std.specs.List.{AllZip}
use Rattle.udfs_lattice.specs.States.{is_known}
use Rattle.udfs_tag.specs.declared.layouts.LongAd.{LongAd}
use Rattle.udfs_volume.specs.Answers.{found}
use Rattle.udfs_volume.specs.declared.seen.Seen.{Seen}
use Rattle.udfs_volume.specs.declared.seen.Seen.TheVariants as seen
use Rattle.udfs_space.specs.Places.{View, IsPartOf}
use Rattle.udfs_file.specs.Addresses.{file_set}
use Rattle.udfs_file.specs.Bodies.{cells, body}
use Rattle.udfs_file.specs.Complete.{IsComplete, IsReadBody, IsReadDirectory, IsReadFileSet, as_cells}
use Rattle.udfs_file.specs.Entries.{EntryFields}
use Rattle.udfs_volume.specs.declared.profiles.Profile.{Profile}
use Rattle.udfs_volume.specs.declared.profiles.Profile.TheVariants.{Strict}
use Rattle.udfs_file.specs.Fronts.{directory_by, entries_by, listed_entries}
use Rattle.udfs_file.specs.Laws.{ArePartOf, IsBeginningOf, IsCellOf, IsClearTo, descriptor_end}
use Rattle.udfs_file.specs.Standard.{PartitionBlocks, Located}
use Rattle.udfs_file.specs.Stretches.{cells_of}
use Rattle.udfs_file.specs.declared.cells.Cell.{Cell}
use Rattle.udfs_file.specs.declared.cells.Cell.TheVariants.{Gap}
use Rattle.udfs_file.specs.declared.directories.DirEntry.{DirEntry}
use Rattle.udfs_file.specs.declared.directories.DirFront.{DirFront}
use Rattle.udfs_file.specs.Identifiers.{Identifier}
use Rattle.udfs_file.specs.Identifiers.{Nothing}
use Rattle.udfs_file.specs.declared.faults.WalkError.{WalkError}
use Rattle.udfs_file.specs.declared.faults.WalkError.TheVariants as walk_error
use Rattle.udfs_file.specs.declared.stretches.Stretch.{Stretch}

-- ---- the file set
-- this root, and block n is known; or block n is not known, and is the one hole or memory ran out for it
abbrev pub IsRootOf : View → ℕ → LongAd → Seen LongAd → Type 0
IsRootOf some n root (seen.Got got) = (got ≡ root) × (is_known (some.blocks n) ≡ true)
IsRootOf some n root (seen.Holes listed) = (listed.items ≡ n ∷ []) × (is_known (some.blocks n) ≡ false)
IsRootOf some n root (seen.Fault fault) = ⊥
IsRootOf some n root seen.OutOfMemory = is_known (some.blocks n) ≡ false

-- what is reported of a file set whose descriptor, in the complete view, is in a block and names this root
pub record IsFileSetTold (some all : View) (a root : LongAd) (told : Seen LongAd) : Type 0 where
  pub block : ℕ
  pub place : all.place a.reference a.block ≡ Some block
  pub root_or_hole : IsRootOf some block root told
  pub standard : (blocks : PartitionBlocks) → IsComplete all blocks → IsReadFileSet blocks a root

-- over a part of each view in which the file set names a root, the result is true of that root, as `IsFileSetTold` says
abbrev pub TellsFileSet : View → LongAd → Seen LongAd → Type 0
TellsFileSet some a told = (all : View) → IsPartOf some all → (root : LongAd) → file_set all a ≡ found root
    → IsFileSetTold some all a root told

-- ---- a body
-- a body that is without a fault in the complete view
pub record IsToldBody (some all : View) (r b : ℕ) (entry : EntryFields) (part whole : List Cell) : Type 0 where
  pub size : length part ≡ entry.size
  pub cells_are : ArePartOf some all r entry part whole
  pub standard : (blocks : PartitionBlocks) → IsComplete all blocks → IsReadBody blocks r b entry whole

-- such a body has no fault in a part of the view; memory may run out
abbrev pub IsBodyTold : View → View → ℕ → ℕ → EntryFields → List Cell → Result (List Stretch) WalkError → Type 0
IsBodyTold some all r b entry whole (Ok stretches) = IsToldBody some all r b entry (cells_of some stretches) whole
IsBodyTold some all r b entry whole (Err (walk_error.Fault fault)) = ⊥
IsBodyTold some all r b entry whole (Err walk_error.OutOfMemory) = ⊤

-- over a part of each view in which the body has no fault, the result is true of that body, as `IsBodyTold` says
abbrev pub TellsBody : View → ℕ → ℕ → EntryFields → Result (List Stretch) WalkError → Type 0
TellsBody some r b entry told = (all : View) → IsPartOf some all → (whole : List Cell) → body all r b entry ≡ cells whole
    → IsBodyTold some all r b entry whole told

-- ---- a directory
-- the front of the directory in some cells, each of which is the whole's or missing
pub record IsFrontPart (profile : Profile) (part whole : List Cell) (front : DirFront) : Type 0 where
  pub entries : IsBeginningOf front.entries.items (entries_by profile whole)
  -- an entry is among them exactly if no cell before the end of its descriptor is missing
  pub reached : (before behind : List Identifier) (id : Identifier) (entry : DirEntry)
      → (directory_by profile whole).identifiers ≡ before ++ id ∷ behind → id.listed ≡ Some entry
      → (length (listed_entries before) < length front.entries.items) ↔ IsClearTo part (descriptor_end before id)
  -- the block that ended it is one that a missing cell names
  pub stopped : (n : ℕ) → front.missing ≡ Some n → (k : ℕ) × (slice_get part k ≡ Some (Gap n))
  -- where the whole has no fault, it has none, and its entries are all of them unless a missing block ended it
  pub no_fault : (directory_by profile whole).rest ≡ Nothing → front.fault ≡ None
  pub all : (directory_by profile whole).rest ≡ Nothing → front.missing ≡ None → front.entries.items ≡ entries_by profile whole
  -- the whole's entries are those of the one list of descriptors that the standard reads from its bytes
  pub standard : (bytes : List Located) → whole ≡ as_cells bytes → (directory_by profile whole).rest ≡ Nothing
      → (ids : List Identifier) × IsReadDirectory profile bytes ids × (entries_by profile whole ≡ listed_entries ids)

-- of each whole of which these cells are a part, the front is a part of its directory
abbrev pub TellsBy : Profile → List Cell → DirFront → Type 0
TellsBy profile part front = (whole : List Cell) → AllZip IsCellOf part whole → IsFrontPart profile part whole front

-- the same by the strict rules
abbrev pub TellsFront : List Cell → DirFront → Type 0
TellsFront part front = TellsBy Strict part front
