-- Names in a directory behind a block that is not known (ECMA-167 4/14.4). Nothing says where a descriptor begins there, so each multiple of 4 is looked at. What is
-- found is evidence and no proof: the bytes may be left over from an older state of the directory.
--     entry_in cells          the entry of the descriptor at the beginning of the cells, if a sound one whose CRC covers something is there
--     entries_in cells        those at all offsets that are multiples of 4
--     behind_front cells      the cells behind the descriptors that can be read from the beginning on
--     found_entries cells     the entries that are found behind these
--     FoundNamesAreThere      what is found in a part of the cells is in the whole at that place, and back if no cell of its descriptor is missing
use Rattle.std.specs.Prelude.{◌≡◌, ℕ, ◌*◌, List, length, take, drop, map, sum_by, filter_map, cond, nat_lt, Option, Some, None}
use Rattle.std.specs.List.{AllZip, range_with_len}
use Rattle.udfs_tag.specs.Fields.{uint16_at}
use Rattle.udfs_file.specs.declared.cells.Cell.{Cell}
use Rattle.udfs_file.specs.declared.directories.DirEntry.{DirEntry}
use Rattle.udfs_file.specs.Fronts.{directory, step, value}
use Rattle.udfs_file.specs.Identifiers.{Identifier, Step, AtRest, One}
use Rattle.udfs_file.specs.Laws.{IsCellOf, IsClearTo}

-- how many bytes of a descriptor the CRC of its tag covers (3/7.2.6): with none it says nothing of them
abbrev pub crc_length : List ℕ → ℕ
crc_length bytes = uint16_at bytes 10

-- the entry of a descriptor at the beginning of the cells, if its CRC covers something
abbrev pub covered_entry : List Cell → Step → Option DirEntry
covered_entry cells (AtRest rest) = None
covered_entry cells (One id) = cond (nat_lt 0 (crc_length (map value (take id.size cells)))) id.listed None

-- the entry at the beginning of the cells: of the descriptor that the strict rules read there, with a tag of its own place and a good name
unfoldable pub entry_in : List Cell → Option DirEntry
entry_in cells = covered_entry cells (step cells)

-- the entries at all offsets that are multiples of 4
unfoldable pub entries_in : List Cell → List DirEntry
entries_in cells = filter_map (λ i. entry_in (drop (4 * i) cells)) (range_with_len 0 (length cells))

-- the cells behind the descriptors that the strict rules read from the beginning on
unfoldable pub behind_front : List Cell → List Cell
behind_front cells = drop (sum_by (λ (id : Identifier). id.size) (directory cells).identifiers) cells

-- the entries that are found behind these
abbrev pub found_entries : List Cell → List DirEntry
found_entries cells = entries_in (behind_front cells)

-- at this offset in cells of which a part is missing
pub record FindsPart (part whole : List Cell) (k : ℕ) : Type 0 where
  -- what is found is in the whole at that place
  pub there : (e : DirEntry) → entry_in (drop k part) ≡ Some e → entry_in (drop k whole) ≡ Some e
  -- and where the whole has a descriptor, its entry is found, if no cell of it is missing
  pub found : (id : Identifier) → step (drop k whole) ≡ One id → IsClearTo (drop k part) id.size → entry_in (drop k part) ≡ entry_in (drop k whole)

-- at every offset
abbrev pub FoundNamesAreThere : Type 0
FoundNamesAreThere = (part whole : List Cell) → AllZip IsCellOf part whole → (k : ℕ) → FindsPart part whole k
