-- Directories (ECMA-167 4/14.4): a list of file identifier descriptors, one after the other, then a rest.
-- The wide rules do not compare the place that a descriptor's tag names.
--     ReadsBy profile cells ids rest     by these rules the cells are these descriptors, and then the rest
--     directory_by profile cells         the descriptors and the rest
--     entries_by profile cells           the entries that are neither deleted nor the parent
--     step, directory, directory_entries, ReadsAs, IsFrontOf ..      the same by the strict rules
--     has_moved_tags cells               some descriptor that the wide rules read has a tag of another place
use Rattle.std.specs.Prelude.{◌≡◌, ◌<◌, ℕ, zero, suc, ◌+◌, ◌*◌, ◌/◌, ◌%◌, Bool, List, [], ◌∷◌, length, take, drop, map, cond, ◌==◌, nat_lt, ◌||◌, Option, Some, None, filter_map, Result, Ok, Err}
use Rattle.udfs_tag.specs.Fields.{uint16_at, uint32_at}
use Rattle.udfs_tag.specs.Fields.{uint8_at, long_ad_at, part}
use Rattle.udfs_tag.specs.Tags.{is_valid}
use Rattle.udfs_volume.specs.declared.profiles.Profile.{Profile}
use Rattle.udfs_volume.specs.declared.profiles.Profile.TheVariants.{Strict, Wide}
use Rattle.udfs_osta.specs.Names.{units_of}
use Rattle.udfs_osta.specs.declared.names.NameFault.{NameFault}
use Rattle.udfs_file.specs.declared.cells.Cell.{Cell}
use Rattle.udfs_file.specs.declared.cells.Cell.TheVariants.{Byte, Gap}
use Rattle.udfs_file.specs.declared.directories.DirEnd.{DirEnd}
use Rattle.udfs_file.specs.declared.directories.DirEntry.{DirEntry}
use Rattle.udfs_file.specs.declared.directories.DirFront.{DirFront}
use Rattle.udfs_file.specs.Identifiers.{Identifier}
use Rattle.udfs_file.specs.Identifiers.{Rest}
use Rattle.udfs_file.specs.Identifiers.{Nothing, Stopped, Wrong}
use Rattle.udfs_file.specs.Identifiers.{Step}
use Rattle.udfs_file.specs.Identifiers.{AtRest, One}
use Rattle.udfs_file.specs.declared.faults.FrontError.{FrontError}
use Rattle.udfs_file.specs.declared.faults.FrontError.TheVariants as front_error
use Rattle.udfs_file.specs.declared.faults.NodeFault.{NodeFault}
use Rattle.udfs_file.specs.declared.marks.Marks.{Marks}
use Rattle.udfs_file.specs.declared.faults.NodeFault.TheVariants.{IdentifierTag, Name, Cut}

-- the block that the first missing cell needs
abbrev pub first_missing : List Cell → Option ℕ
first_missing [] = None
first_missing (Byte x holder ∷ cells) = first_missing cells
first_missing (Gap n ∷ cells) = Some n

-- a cell's byte; 0 where it is missing
abbrev pub value : Cell → ℕ
value (Byte x holder) = x
value (Gap n) = 0

-- the block that holds the first cell's byte
abbrev pub holder_of : List Cell → Option ℕ
holder_of [] = None
holder_of (Byte x holder ∷ cells) = holder
holder_of (Gap n ∷ cells) = None

-- the length of a descriptor, a multiple of 4, given by its first 38 bytes (4/14.4.9)
abbrev pub identifier_size : List ℕ → ℕ
identifier_size bytes = 4 * ((uint8_at bytes 19 + uint16_at bytes 36 + 41) / 4)

-- a step, unless a block is missing before it
abbrev pub or_stop : Option ℕ → Step → Step
or_stop None step = step
or_stop (Some n) step = AtRest (Stopped n)

-- whether a descriptor is neither deleted nor the parent's: bits 2 and 3 of its characteristics are 0 (4/14.4.3)
abbrev pub is_listed : List ℕ → Bool
is_listed bytes = uint8_at bytes 18 / 4 % 4 == 0

-- the characteristics in a byte: five bits of it are known
abbrev pub marks_of : ℕ → Marks
marks_of byte = record { 0 = byte % 32 }

-- the entry in a descriptor, by what its name is read as
abbrev pub entry_with : ℕ → List ℕ → Result (List ℕ) NameFault → Step
entry_with size bytes (Ok units) = One (record {
  size = size;
  listed = Some (record { name = units; icb = long_ad_at bytes 20; marks = marks_of (uint8_at bytes 18) });
})
entry_with size bytes (Err fault) = AtRest (Wrong Name)

-- the descriptor in these bytes, whose tag is checked
abbrev pub identifier_in : ℕ → List ℕ → Step
identifier_in size bytes = cond (is_listed bytes)
    (entry_with size bytes (units_of (part bytes (38 + uint16_at bytes 36) (uint8_at bytes 19))))
    (One (record { size = size; listed = None }))

-- The place that a descriptor's tag is to name: the logical block that holds its first byte, and no block holds an unrecorded zero. By
-- the wide rules it is the place that the tag names, so that nothing is compared.
abbrev pub place_asked : Profile → Option ℕ → List ℕ → Option ℕ
place_asked Strict holder bytes = holder
place_asked Wide holder bytes = Some (uint32_at bytes 12)

-- the descriptor in these bytes, whose tag is to name this place
abbrev pub checked_identifier : Option ℕ → List ℕ → Step
checked_identifier None bytes = AtRest (Wrong IdentifierTag)
checked_identifier (Some b) bytes =
    cond (is_valid bytes b 257) (identifier_in (length bytes) bytes) (AtRest (Wrong IdentifierTag))

-- the descriptor in these bytes, of which this block holds the first
abbrev pub checked_by : Profile → Option ℕ → List ℕ → Step
checked_by profile holder bytes = checked_identifier (place_asked profile holder bytes) bytes

-- the descriptor of this size at the beginning of the cells, or what ends the directory there
abbrev pub sized_by : Profile → List Cell → ℕ → Step
sized_by profile cells size = cond (nat_lt 2048 size || nat_lt (length cells) size) (AtRest (Wrong Cut))
    (or_stop (first_missing (take size cells)) (checked_by profile (holder_of cells) (map value (take size cells))))

-- the descriptor at the beginning of cells of which there is at least one, or what ends the directory there
abbrev pub some_step : Profile → List Cell → Step
some_step profile cells = cond (nat_lt (length cells) 38) (AtRest (Wrong Cut))
    (or_stop (first_missing (take 38 cells)) (sized_by profile cells (identifier_size (map value (take 38 cells)))))

-- the descriptor at the beginning of the cells, or what ends the directory there
unfoldable pub step_by : Profile → List Cell → Step
step_by profile [] = AtRest Nothing
step_by profile (cell ∷ cells) = some_step profile (cell ∷ cells)

-- the cells are these descriptors, one after the other, and then the rest
abbrev pub ReadsBy : Profile → List Cell → List Identifier → Rest → Type 0
ReadsBy profile cells [] rest = step_by profile cells ≡ AtRest rest
ReadsBy profile cells (id ∷ ids) rest = (step_by profile cells ≡ One id) × ReadsBy profile (drop id.size cells) ids rest

-- the descriptors of a directory, and what ends them
pub record DirectoryText : Type 0 where
  pub identifiers : List Identifier
  pub rest : Rest

-- a descriptor and those after it, or the end
abbrev pub read_on : Step → (ℕ → DirectoryText) → DirectoryText
read_on (AtRest rest) later = record { identifiers = []; rest = rest }
read_on (One id) later = let more = later id.size in record { identifiers = id ∷ more.identifiers; rest = more.rest }

-- the descriptors and the rest, as `ReadsBy` says; a directory has at most as many descriptors as cells
abbrev pub read_from : Profile → ℕ → List Cell → DirectoryText
read_from profile zero cells = record { identifiers = []; rest = Nothing }
read_from profile (suc n) cells = read_on (step_by profile cells) (λ size. read_from profile n (drop size cells))

-- the descriptors of a directory's cells, as far as they can be read by these rules, and what ends them
unfoldable pub directory_by : Profile → List Cell → DirectoryText
directory_by profile cells = read_from profile (length cells + 1) cells

-- the entries of descriptors that are neither deleted nor the parent's
abbrev pub listed_entries : List Identifier → List DirEntry
listed_entries ids = filter_map (λ id. id.listed) ids

-- the entries that a directory lists, as far as they can be read by these rules
abbrev pub entries_by : Profile → List Cell → List DirEntry
entries_by profile cells = listed_entries (directory_by profile cells).identifiers

-- some descriptor that is read by the wide rules has a tag of another place: more are read by these rules than by the strict ones
abbrev pub has_moved_tags : List Cell → Bool
has_moved_tags cells = nat_lt (length (directory_by Strict cells).identifiers) (length (directory_by Wide cells).identifiers)

-- ---- the same by the strict rules
-- the descriptor of this size at the beginning of the cells, or what ends the directory there
abbrev pub sized_identifier : List Cell → ℕ → Step
sized_identifier cells size = sized_by Strict cells size

-- the descriptor at the beginning of the cells, or what ends the directory there
abbrev pub step : List Cell → Step
step cells = step_by Strict cells

-- the cells are these descriptors, one after the other, and then the rest
abbrev pub ReadsAs : List Cell → List Identifier → Rest → Type 0
ReadsAs cells ids rest = ReadsBy Strict cells ids rest

-- the descriptors of a directory's cells, as far as they can be read, and what ends them
abbrev pub directory : List Cell → DirectoryText
directory cells = directory_by Strict cells

-- the entries that a directory lists, as far as they can be read
abbrev pub directory_entries : List Cell → List DirEntry
directory_entries cells = entries_by Strict cells

-- ---- what code reports of a directory
-- the missing block that ended a directory, if one did
abbrev pub missing_in : Rest → Option ℕ
missing_in Nothing = None
missing_in (Stopped n) = Some n
missing_in (Wrong fault) = None

-- the fault that ended a directory, if one did
abbrev pub fault_in : Rest → Option NodeFault
fault_in Nothing = None
fault_in (Stopped n) = None
fault_in (Wrong fault) = Some fault

-- the front is what the definition says of these cells
pub record IsFrontBy (profile : Profile) (front : DirFront) (cells : List Cell) : Type 0 where
  pub entries : front.entries.items ≡ entries_by profile cells
  pub missing : front.missing ≡ missing_in (directory_by profile cells).rest
  pub fault : front.fault ≡ fault_in (directory_by profile cells).rest

-- the end is what the definition says of these cells
pub record IsEndBy (profile : Profile) (end : DirEnd) (cells : List Cell) : Type 0 where
  pub lists : end.lists ≡ nat_lt 0 (length (entries_by profile cells))
  pub missing : end.missing ≡ missing_in (directory_by profile cells).rest
  pub fault : end.fault ≡ fault_in (directory_by profile cells).rest

-- too many entries are reported only where there are more than `most`, and out of memory only where there is one at least
abbrev pub IsRefusedBy : Profile → ℕ → List Cell → FrontError → Type 0
IsRefusedBy profile most cells front_error.TooMany = most < length (entries_by profile cells)
IsRefusedBy profile most cells front_error.OutOfMemory = 0 < length (entries_by profile cells)

-- the front is that by the strict rules
abbrev pub IsFrontOf : DirFront → List Cell → Type 0
IsFrontOf front cells = IsFrontBy Strict front cells
