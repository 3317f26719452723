-- File entries and extended file entries, by their tables (ECMA-167 4/14.6, 4/14.9, 4/14.17).
--     icb_table, file_entry_table, extended_table    the rows
--     IsEntryBy form bytes place e      an entry of one of the two tables, with these fields
--     IsEntryAt bytes place e           an entry of either
use Rattle.std.specs.Prelude.{◌≡◌, ◌≢◌, ℕ, ◌+◌, ◌⊎◌, List, [], ◌∷◌}
use Rattle.udfs_osta.specs.Stamps.{stamp_of}
use Rattle.udfs_file.specs.Entries.{EntryFields}
use Rattle.udfs_file.specs.declared.faults.Kind.{Kind}
use Rattle.udfs_file.specs.declared.faults.Kind.TheVariants.{Directory, File, Link, Other, Unread}
use Rattle.udfs_lawfulness.specs.LawfulTables.{Row, row, IsField, Holds, HasBits}
use Rattle.udfs_lawfulness.specs.Tags.{IsTagged}
use Rattle.udfs_lawfulness.specs.Extents.{AreWhole}

-- strategy type
abbrev pub icb_strategy : Row
icb_strategy = row 4 2

-- file type
abbrev pub icb_file_type : Row
icb_file_type = row 11 1

-- flags
abbrev pub icb_flags : Row
icb_flags = row 18 2

-- the ICB tag (4/14.6): prior recorded number of direct entries, strategy type and parameter, maximum number of entries, reserved, file
-- type, parent ICB location, flags
abbrev pub icb_table : List Row
icb_table = row 0 4 ∷ icb_strategy ∷ row 6 2 ∷ row 8 2 ∷ row 10 1 ∷ icb_file_type ∷ row 12 6 ∷ icb_flags ∷ []

-- What the tables of both kinds of entry give to the fields that are read of one. The first seven rows are the same in both.
pub record EntryTable : Type 0 where
  pub identifier : ℕ
  pub modified : Row
  pub attributes_length : Row
  pub descriptors_length : Row
  -- where the extended attributes begin
  pub fixed : ℕ

-- the ICB tag, in both
abbrev pub entry_icb : Row
entry_icb = row 16 20

-- information length, in both
abbrev pub information_length : Row
information_length = row 56 8

-- a file entry (4/14.9)
abbrev pub file_entry : EntryTable
file_entry = record { identifier = 261; modified = row 84 12; attributes_length = row 168 4; descriptors_length = row 172 4; fixed = 176 }

-- an extended file entry (4/14.17)
abbrev pub extended_file_entry : EntryTable
extended_file_entry = record { identifier = 266; modified = row 92 12; attributes_length = row 208 4; descriptors_length = row 212 4; fixed = 216 }

-- the rows of both up to the information length: tag, ICB tag, uid, gid, permissions, file link count, record format, record display
-- attributes, record length
abbrev pub first_rows : List Row
first_rows = row 0 16 ∷ entry_icb ∷ row 36 4 ∷ row 40 4 ∷ row 44 4 ∷ row 48 2 ∷ row 50 1 ∷ row 51 1 ∷ row 52 4 ∷ information_length ∷ []

-- the rows of a file entry after that: logical blocks recorded, access, modification and attribute date and time, checkpoint, extended
-- attribute ICB, implementation identifier, unique id, length of extended attributes, length of allocation descriptors
abbrev pub file_entry_rows : List Row
file_entry_rows = row 64 8 ∷ row 72 12 ∷ file_entry.modified ∷ row 96 12 ∷ row 108 4 ∷ row 112 16 ∷ row 128 32 ∷ row 160 8
    ∷ file_entry.attributes_length ∷ file_entry.descriptors_length ∷ []

-- the rows of an extended file entry after that: object size, logical blocks recorded, access, modification, creation and attribute date
-- and time, checkpoint, reserved, extended attribute ICB, stream directory ICB, implementation identifier, unique id, and both lengths
abbrev pub extended_rows : List Row
extended_rows = row 64 8 ∷ row 72 8 ∷ row 80 12 ∷ extended_file_entry.modified ∷ row 104 12 ∷ row 116 12 ∷ row 128 4 ∷ row 132 4 ∷ row 136 16
    ∷ row 152 16 ∷ row 168 32 ∷ row 200 8 ∷ extended_file_entry.attributes_length ∷ extended_file_entry.descriptors_length ∷ []

-- what a file type says (4/14.6.6): 4 is a directory, 5 a file, 12 a symbolic link
abbrev pub IsKind : ℕ → Kind → Type 0
IsKind t Directory = t ≡ 4
IsKind t File = t ≡ 5
IsKind t Link = t ≡ 12
IsKind t Unread = ⊥
IsKind t (Other u) = (t ≡ u) × (t ≢ 4) × (t ≢ 5) × (t ≢ 12)

-- the area of allocation descriptors is of a form that is read: short or long descriptors, all whole, or the file's own bytes (3; 4/14.6.8)
abbrev pub IsAreaOf : ℕ → ℕ → Type 0
IsAreaOf form count = AreWhole form count ⊎ (form ≡ 3)

-- An entry at a logical block, by one of the two tables: a valid tag, strategy 4, and these fields. Its extended attributes and then
-- its allocation descriptors are after the fixed rows, and lie in the block.
pub record IsEntryBy (table : EntryTable) (bytes : List ℕ) (place : ℕ) (e : EntryFields) : Type 0 where
  pub tagged : IsTagged bytes table.identifier place
  pub icb : List ℕ
  pub icb_is : IsField bytes entry_icb icb
  pub strategy : Holds icb icb_strategy 4
  pub file_type : ℕ
  pub type_is : Holds icb icb_file_type file_type
  pub kind : IsKind file_type e.kind
  pub flags : ℕ
  pub flags_is : Holds icb icb_flags flags
  pub form : HasBits 0 3 flags e.form
  pub size : Holds bytes information_length e.size
  pub modified : List ℕ
  pub modified_is : IsField bytes table.modified modified
  pub stamp : e.stamp ≡ stamp_of modified
  pub attributes : ℕ
  pub attributes_is : Holds bytes table.attributes_length attributes
  pub descriptors : ℕ
  pub descriptors_is : Holds bytes table.descriptors_length descriptors
  pub area : IsField bytes (row (table.fixed + attributes) descriptors) e.area
  pub whole : IsAreaOf e.form descriptors

-- a file entry or an extended file entry
abbrev pub IsEntryAt : List ℕ → ℕ → EntryFields → Type 0
IsEntryAt bytes place e = IsEntryBy file_entry bytes place e ⊎ IsEntryBy extended_file_entry bytes place e
