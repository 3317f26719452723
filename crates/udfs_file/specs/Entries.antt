-- File entries and extended file entries (ECMA-167 4/14.9, 4/14.17), with their ICB tag (4/14.6).
--     entry_fault bytes b       the first fault of the entry at logical block b
--     entry_of bytes            its fields, if it has no fault
use Rattle.std.specs.Prelude.{◌≡◌, ℕ, ◌+◌, ◌-◌, ◌%◌, ◌≤◌, Bool, not, List, [], ◌∷◌, cond, ◌==◌, nat_le, nat_lt, ◌&&◌, ◌||◌, Option, Some, None, Result, Ok, Err}
use Rattle.udfs_tag.specs.Fields.{uint16_at, uint32_at}
use Rattle.udfs_tag.specs.Fields.{uint8_at, uint64_at, part}
use Rattle.udfs_tag.specs.Faults.{first_fault}
use Rattle.udfs_tag.specs.Tags.{is_valid}
use Rattle.udfs_osta.specs.Stamps.{stamp_of}
use Rattle.udfs_osta.specs.declared.stamps.Stamp.{Stamp}
use Rattle.udfs_file.specs.declared.faults.Kind.{Kind}
use Rattle.udfs_file.specs.declared.faults.Kind.TheVariants.{Directory, File, Link, Other}
use Rattle.udfs_file.specs.declared.faults.NodeFault.{NodeFault}
use Rattle.udfs_file.specs.declared.faults.NodeFault.TheVariants.{Tag, Strategy, Descriptors, Lengths}

-- how many bytes are before the extended attributes: 176, or 216 in an extended file entry
abbrev pub fixed_part : List ℕ → ℕ
fixed_part bytes = cond (uint16_at bytes 0 == 261) 176 216

-- the length of the extended attributes
abbrev pub attributes_length : List ℕ → ℕ
attributes_length bytes = uint32_at bytes (fixed_part bytes - 8)

-- the length of the allocation descriptors
abbrev pub descriptors_length : List ℕ → ℕ
descriptors_length bytes = uint32_at bytes (fixed_part bytes - 4)

-- the low three flag bits (4/14.6.8): 0 short, 1 long, 3 embedded
abbrev pub descriptor_form : List ℕ → ℕ
descriptor_form bytes = uint16_at bytes 34 % 8

-- how many bytes an allocation descriptor of this form has
abbrev pub descriptor_size : ℕ → ℕ
descriptor_size form = cond (form == 0) 8 16

-- where the descriptors begin
abbrev pub area_start : List ℕ → ℕ
area_start bytes = fixed_part bytes + attributes_length bytes

-- whether the bytes are a valid file entry or extended file entry at logical block b
abbrev pub is_entry : List ℕ → ℕ → Bool
is_entry bytes b = is_valid bytes b 261 || is_valid bytes b 266

-- whether the form of the allocation descriptors is neither short, nor long, nor embedded
abbrev pub is_strange_form : ℕ → Bool
is_strange_form form = (form == 2) || nat_le 4 form

-- whether this many bytes end inside a descriptor of this form; embedded bytes never do
abbrev pub is_cut_form : ℕ → ℕ → Bool
is_cut_form form count = not (form == 3) && not (count % descriptor_size form == 0)

-- whether the allocation descriptors pass the end of the block
abbrev pub is_too_long : List ℕ → Bool
is_too_long bytes = nat_lt 2048 (area_start bytes + descriptors_length bytes)

-- whether the allocation descriptors pass the block's end or end inside one of them
abbrev pub has_bad_lengths : List ℕ → Bool
has_bad_lengths bytes = is_too_long bytes || is_cut_form (descriptor_form bytes) (descriptors_length bytes)

-- the first rule that a file entry or extended file entry breaks (ECMA-167 4/14.9, 4/14.17)
unfoldable pub entry_fault : List ℕ → ℕ → Option NodeFault
entry_fault bytes b = first_fault (
    (not (is_entry bytes b), Tag)
    ∷ (not (uint16_at bytes 20 == 4), Strategy)
    ∷ (is_strange_form (descriptor_form bytes), Descriptors)
    ∷ (has_bad_lengths bytes, Lengths)
    ∷ [])

-- what an entry is, by its file type (ECMA-167 4/14.6.6)
abbrev pub kind_of : ℕ → Kind
kind_of t = cond (t == 4) Directory (cond (t == 5) File (cond (t == 12) Link (Other t)))

-- An entry: its kind, size and time, the form of its descriptors, and the bytes that hold them.
pub record EntryFields : Type 0 where
  pub kind : Kind
  pub size : ℕ
  pub stamp : Stamp
  pub form : ℕ
  pub area : List ℕ

-- the fields of a file entry or extended file entry
unfoldable pub entry_of : List ℕ → EntryFields
entry_of bytes = record {
  kind = kind_of (uint8_at bytes 27);
  size = uint64_at bytes 56;
  stamp = stamp_of (part bytes (cond (uint16_at bytes 0 == 261) 84 92) 12);
  form = descriptor_form bytes;
  area = part bytes (area_start bytes) (descriptors_length bytes);
}

-- what an entry that was read is, or the fault that there was
abbrev pub IsEntryRead : Result (List ℕ) NodeFault → List ℕ → ℕ → Type 0
IsEntryRead (Ok entry) bytes b = (entry ≡ bytes) × (entry_fault bytes b ≡ None)
IsEntryRead (Err fault) bytes b = entry_fault bytes b ≡ Some fault

-- the allocation descriptors lie within the block
abbrev pub FitsBlock : List ℕ → Type 0
FitsBlock bytes = area_start bytes + descriptors_length bytes ≤ 2048
