-- How files and folders are named where names that are too long get short ones.
--     icb_number two reference block    the number of an information control block
--     is_too_long name                  a name that no usual file system takes
--     IsFileName name                   a name that each takes
--     IsShortOf name end short          as much of its beginning as fits, and this end
--     short_name two icb name           as much of its beginning as fits, `~`, and the number
--     above nodes depth index           the last node up to this one whose path has `depth` names
--     placed short report index n        the names by which a node is written
--     own_name short report n           the short name of a node, where it has one
use Rattle.std.specs.Prelude.{◌≡◌, ◌<◌, ℕ, zero, suc, ◌+◌, ◌-◌, ◌≤◌, ◌/◌, ◌%◌, ◌==◌, ◌&&◌, Bool, false, nat_lt, nat_le, List, [], ◌∷◌, ◌++◌, Option, Some, None, cond, codes, decimal, length, option_map, slice_get, slice_index, take, unwrap_or, if◌then◌else◌}
use Rattle.std.specs.Str.{encode_utf8_all}
use Rattle.std.specs.Char.Utf16.{is_high_surrogate, is_low_surrogate}
use Rattle.udfs_osta.specs.Escapes.{escaped, shown_unit}
use Rattle.udfs_osta.specs.Fronts.{begins_with_pair}
use Rattle.udfs_osta.specs.Parts.{IsPathPart}
use Rattle.udfs_tag.specs.declared.layouts.LbAddr.{LbAddr}
use Rattle.udfs_walk.specs.NodeFields.{NodeFields}
use Rattle.udfs_walk.specs.Targets.{icb_of}
use Rattle.udfs_salvage.specs.Reports.{Report}
use Rattle.udfs_salvage.specs.Texts.{has_two}

-- ---- one name

-- the logical block, in decimal, with the partition reference in front where there are two partitions
abbrev pub icb_number : Bool → ℕ → ℕ → List ℕ
icb_number two reference block = cond two (decimal reference ++ codes "-" ++ decimal block) (decimal block)

-- its escaped form has more bytes than Linux's file systems take
abbrev pub is_too_long : List ℕ → Bool
is_too_long name = nat_lt 255 (length (escaped name))

-- its escaped form has at most 255 bytes, and can be part of a path: it is not empty, not `.` or `..`, and has no `/`, no control and so no zero byte
pub record IsFileName (name : List ℕ) : Type 0 where
  pub few : length (escaped name) ≤ 255
  pub part : IsPathPart (escaped name)

-- the bytes of a unit in no pair, in its escaped form
abbrev pub unit_size : ℕ → ℕ
unit_size unit = length (encode_utf8_all (shown_unit unit))

-- the bytes of the first character of units, a surrogate pair or one unit
abbrev pub front_bytes : List ℕ → ℕ
front_bytes units = if begins_with_pair units then 4 else unit_size (slice_index units 0)

-- how many units from the front have at most `room` bytes in their escaped form: a pair has four, and is not parted
unfoldable pub front_count : ℕ → List ℕ → ℕ
front_count room [] = 0
front_count room (u ∷ []) = if nat_le (unit_size u) room then 1 else 0
front_count room (u ∷ v ∷ us) =
    if is_high_surrogate u && is_low_surrogate v then (if nat_le 4 room then 2 + front_count (room - 4) us else 0)
    else (if nat_le (unit_size u) room then 1 + front_count (room - unit_size u) (v ∷ us) else 0)

-- the end of a short name: `~`, and the number of the information control block
abbrev pub short_end : Bool → LbAddr → List ℕ
short_end two icb = codes "~" ++ icb_number two icb.reference icb.block

-- the beginning, as far as both have at most 255 bytes, and the end
abbrev pub short_name : Bool → LbAddr → List ℕ → List ℕ
short_name two icb name = take (front_count (255 - length (short_end two icb)) name) name ++ short_end two icb

-- A beginning of a name, followed by this end, which file systems take. No longer beginning fits.
pub record IsShortOf (name end short : List ℕ) : Type 0 where
  pub count : ℕ
  pub is : short ≡ take count name ++ end
  pub fits : IsFileName short
  pub longest : (more : ℕ) → count < more → more ≤ length name → 255 < length (escaped (take more name ++ end))

-- the short one of a name that is too long
abbrev pub shortened : Bool → LbAddr → List ℕ → Option (List ℕ)
shortened two icb name = if is_too_long name then Some (short_name two icb name) else None

-- each unit in two bytes, the high one first
abbrev pub unit_bytes : List ℕ → List ℕ
unit_bytes [] = []
unit_bytes (unit ∷ units) = unit / 256 ∷ unit % 256 ∷ unit_bytes units

-- ---- the names of a path

-- the path of the node with this index has `depth` names
abbrev pub has_names : List NodeFields → ℕ → ℕ → Bool
has_names nodes depth index = unwrap_or (option_map (λ n. length n.path == depth) (slice_get nodes index)) false

-- the last node up to this one whose path has `depth` names; it leads to this one, since a node is directly before those below it
abbrev pub above : List NodeFields → ℕ → ℕ → ℕ
above nodes depth zero = 0
above nodes depth (suc index) = if has_names nodes depth (suc index) then suc index else above nodes depth index

-- a list has, for each length of a path, the last node up to this one that has it; what it lacks is 0
abbrev pub IsWay : List NodeFields → ℕ → List ℕ → Type 0
IsWay nodes index way = (depth : ℕ) → unwrap_or (slice_get way depth) 0 ≡ above nodes depth index

-- the information control block of that node
abbrev pub icb_above : List NodeFields → ℕ → NodeFields → ℕ → LbAddr
icb_above nodes index n depth = unwrap_or (option_map (λ m. icb_of m.icb) (slice_get nodes (above nodes depth index))) (icb_of n.icb)

-- each name, or the short one of a name that is too long, of which the first has this depth
abbrev pub parts : Bool → (ℕ → LbAddr) → ℕ → List (List ℕ) → List (List ℕ)
parts two icb depth [] = []
parts two icb depth (name ∷ names) = unwrap_or (shortened two (icb depth) name) name ∷ parts two icb (suc depth) names

-- the names of its path; with short ones, each that is too long is shortened by the node that it leads to
abbrev pub placed : Bool → Report → ℕ → NodeFields → List (List ℕ)
placed short report index n = cond short (parts (has_two report.volume) (icb_above report.nodes index n) 1 n.path) n.path

-- the short one of the last name
abbrev pub last_shortened : Bool → LbAddr → Option (List ℕ) → Option (List ℕ)
last_shortened two icb None = None
last_shortened two icb (Some name) = shortened two icb name

-- the short name of a node, where short ones are asked for and its own is too long
abbrev pub own_name : Bool → Report → NodeFields → Option (List ℕ)
own_name short report n = cond short (last_shortened (has_two report.volume) (icb_of n.icb) (slice_get n.path (length n.path - 1))) None
