-- What holds of a partition of which a part is known.
use Rattle.std.specs.Prelude.{◌≡◌, ℕ, ◌<◌, List, [], ◌∷◌, ◌++◌, length, slice_get, Some, None, ◌↔◌, ◌≢◌, ◌+◌, ⊤, Contains}
use Rattle.std.specs.List.{AllZip}
use Rattle.udfs_lattice.specs.States.{is_known}
use Rattle.udfs_osta.specs.Escapes.{escaped}
use Rattle.udfs_osta.specs.Parts.{IsPathPart}
use Rattle.std.specs.Prelude.{true, false}
use Rattle.udfs_space.specs.Places.{View, IsPartOf}
use Rattle.udfs_tag.specs.declared.layouts.LongAd.{LongAd}
use Rattle.udfs_volume.specs.declared.profiles.Profile.{Profile}
use Rattle.udfs_volume.specs.declared.profiles.Profile.TheVariants.{Strict, Wide}
use Rattle.udfs_volume.specs.Answers.{found, holes}
use Rattle.udfs_file.specs.Addresses.{file_set}
use Rattle.udfs_file.specs.Entries.{EntryFields}
use Rattle.udfs_file.specs.Bodies.{cells, body, IsNeededFor}
use Rattle.udfs_file.specs.declared.cells.Cell.{Cell}
use Rattle.udfs_file.specs.declared.cells.Cell.TheVariants.{Byte, Gap}
use Rattle.udfs_file.specs.Fronts.{directory_by, entries_by, fault_in}
use Rattle.udfs_file.specs.Identifiers.{Nothing, Wrong}
use Rattle.udfs_file.specs.Identifiers.{Identifier}
use Rattle.udfs_file.specs.declared.directories.DirEntry.{DirEntry}
use Rattle.udfs_file.specs.declared.faults.NodeFault.{NodeFault}

-- the first is the second, or missing
abbrev pub IsCellOf : Cell → Cell → Type 0
IsCellOf (Byte x holder) whole = whole ≡ Byte x holder
IsCellOf (Gap n) whole = ⊤

-- the first list begins the second
abbrev pub IsBeginningOf : {A : Type 0} → List A → List A → Type 0
IsBeginningOf {A} xs ys = (rest : List A) × (ys ≡ xs ++ rest)

-- the cell at place k is missing
abbrev pub IsMissingAt : List Cell → ℕ → Type 0
IsMissingAt cs k = (n : ℕ) × (slice_get cs k ≡ Some (Gap n))

-- the offset at which the descriptor after these ends
abbrev pub descriptor_end : List Identifier → Identifier → ℕ
descriptor_end [] id = id.size
descriptor_end (first ∷ ids) id = first.size + descriptor_end ids id

-- no cell before this one is missing
abbrev pub IsClearTo : List Cell → ℕ → Type 0
IsClearTo cs end = (k : ℕ) → k < end → ¬ IsMissingAt cs k

-- What the directory in a part of a body says beside that in the whole.
pub record IsPartialDirectory (profile : Profile) (part whole : List Cell) : Type 0 where
  -- its entries are a beginning of the whole's
  pub entries : IsBeginningOf (entries_by profile part) (entries_by profile whole)
  -- where the whole has no fault, it has none
  pub no_fault : (directory_by profile whole).rest ≡ Nothing → (f : NodeFault) → (directory_by profile part).rest ≢ Wrong f
  -- a descriptor of the whole is read exactly if no cell before its end is missing
  pub reached : (front back : List Identifier) (id : Identifier) → (directory_by profile whole).identifiers ≡ front ++ id ∷ back
      → IsClearTo part (descriptor_end front id) → (more : List Identifier) × ((directory_by profile part).identifiers ≡ front ++ id ∷ more)
  pub clear : (front back : List Identifier) (id : Identifier) → (directory_by profile part).identifiers ≡ front ++ id ∷ back
      → IsClearTo part (descriptor_end front id)

-- the file set's block is known, and it names the same root; or it is the one hole, and it is not known
pub data IsPartialFileSet (some : View) (n : ℕ) (a root : LongAd) : Type 0 where
  known : file_set some a ≡ found root → is_known (some.blocks n) ≡ true → IsPartialFileSet some n a root
  unread : file_set some a ≡ holes (n ∷ []) → is_known (some.blocks n) ≡ false → IsPartialFileSet some n a root

-- Over any view that is part of a complete one: where the complete file set names a root, this one names the same
-- exactly if its block is known.
abbrev pub PartialFileSet : Type 0
PartialFileSet = (some all : View) → IsPartOf some all → (a root : LongAd) → file_set all a ≡ found root
    → (n : ℕ) × (all.place a.reference a.block ≡ Some n) × IsPartialFileSet some n a root

-- The cells of a body in a part of a view, beside those of the whole.
pub record ArePartOf (some all : View) (r : ℕ) (entry : EntryFields) (part whole : List Cell) : Type 0 where
  pub each : AllZip IsCellOf part whole
  -- the block that a missing cell names is not known, and the cell needs it
  pub names : (k n : ℕ) → slice_get part k ≡ Some (Gap n) → (is_known (some.blocks n) ≡ false) × IsNeededFor all r entry k n
  -- a cell is missing exactly if some block that it needs is not known
  pub gaps : (k : ℕ) → IsMissingAt part k ↔ ((n : ℕ) × (is_known (some.blocks n) ≡ false) × IsNeededFor all r entry k n)

-- What a body is of which the whole is known to have no fault.
pub record IsPartialBody (some all : View) (r b : ℕ) (entry : EntryFields) (whole : List Cell) : Type 0 where
  pub part : List Cell
  pub is : body some r b entry ≡ cells part
  pub cells_are : ArePartOf some all r entry part whole
  pub inside : IsPartialDirectory all.profile part whole

-- Over any view that is part of a complete one: where the complete body has no fault, this body has none, each
-- of its cells is the complete one's or missing, a missing cell names a block that it needs and that is not known,
-- and a cell is missing exactly if a block that it needs is not known. Its directory is a beginning of the complete one's, as far as no cell is missing.
abbrev pub PartialBodies : Type 0
PartialBodies = (some all : View) → IsPartOf some all → (r b : ℕ) (entry : EntryFields) (whole : List Cell)
    → body all r b entry ≡ cells whole → IsPartialBody some all r b entry whole

-- the descriptors that the directory in a part of a body lists are a beginning of the whole's
abbrev pub PartialDescriptors : Type 0
PartialDescriptors = (profile : Profile) (part whole : List Cell) → AllZip IsCellOf part whole
    → IsBeginningOf (directory_by profile part).identifiers (directory_by profile whole).identifiers

-- a body without a fault has the information length
abbrev pub BodyLength : Type 0
BodyLength = (v : View) (r b : ℕ) (entry : EntryFields) (cs : List Cell) → body v r b entry ≡ cells cs → length cs ≡ entry.size

-- the same view, by the rules of another profile
abbrev pub by_profile : Profile → View → View
by_profile profile v = record { partitions = v.partitions; place = v.place; blocks = v.blocks; profile = profile }

-- a body without a fault by the strict rules is the same by the wide ones, which take the tail of a last extent
abbrev pub TailKeepsBodies : Type 0
TailKeepsBodies = (v : View) (r b : ℕ) (entry : EntryFields) (cs : List Cell)
    → body (by_profile Strict v) r b entry ≡ cells cs → body (by_profile Wide v) r b entry ≡ cells cs

-- the escaped name of each entry of a directory is a valid path component
abbrev pub NamesAreParts : Type 0
NamesAreParts = (profile : Profile) (cs : List Cell) (e : DirEntry) → Contains (entries_by profile cs) e → IsPathPart (escaped e.name)

-- A directory without a fault by the strict rules, whether or not a missing block ends it, is the same by the wide ones, which do not
-- compare the places that tags name. Of any directory the strict rules read a beginning of what the wide ones read.
pub record AreTagsTaken (cs : List Cell) : Type 0 where
  pub same : fault_in (directory_by Strict cs).rest ≡ None → directory_by Wide cs ≡ directory_by Strict cs
  pub beginning : IsBeginningOf (directory_by Strict cs).identifiers (directory_by Wide cs).identifiers

-- of each directory
abbrev pub WideTakesTags : Type 0
WideTakesTags = (cs : List Cell) → AreTagsTaken cs
