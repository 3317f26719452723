-- Files of a type that is not written: they are no directories, no files by the rules and no links, and yet have bytes.
--     left_out_type n           the file type of such a node
--     left_out_types nodes      their file types, one for each of them
--     wide_writes nodes         whether the wide rules write some of them
--     left_out_note types       what is said of them
--     left_out_line types       the line of the summary, if there are any
--     left_out_remark nodes     what is said beside a report, if there are any
use Rattle.std.specs.Prelude.{Bool, ℕ, ◌++◌, ◌==◌, List, [], ◌∷◌, cond, length, Option, Some, None, codes, count_by, decimal, filter, filter_map, flat_map, nat_eq, nat_lt, unwrap_or, if◌then◌else◌}
use Rattle.std.specs.List.{list_any, range_with_len}
use Rattle.udfs_volume.specs.declared.profiles.Profile.TheVariants.{Wide}
use Rattle.udfs_volume.specs.Profiles.{is_file_type}
use Rattle.udfs_file.specs.declared.faults.Kind.{Kind}
use Rattle.udfs_file.specs.declared.faults.Kind.TheVariants as kind
use Rattle.udfs_walk.specs.NodeFields.{NodeFields}
use Rattle.udfs_walk.specs.declared.standings.Standing.{Standing}
use Rattle.udfs_walk.specs.declared.standings.Standing.TheVariants as standing
use Rattle.udfs_overview.specs.Figures.{grouped}

-- the file type of what is no directory, no file and no link (ECMA-167 4/14.6.6)
abbrev pub other_type : Kind → Option ℕ
other_type kind.Directory = None
other_type kind.File = None
other_type kind.Link = None
other_type (kind.Other t) = Some t
other_type kind.Unread = None

-- with a size above 0 there are bytes, of which none are written
abbrev pub sized_type : Kind → Option ℕ → Option ℕ
sized_type k size = cond (nat_lt 0 (unwrap_or size 0)) (other_type k) None

-- something that is whole or torn
abbrev pub left_out_by : Standing → Kind → Option ℕ → Option ℕ
left_out_by standing.Whole k size = sized_type k size
left_out_by (standing.Torn torn) k size = sized_type k size
left_out_by standing.Loop k size = None
left_out_by (standing.Fault f) k size = None

-- the file type of a node that is left out
abbrev pub left_out_type : NodeFields → Option ℕ
left_out_type n = left_out_by n.standing n.kind n.size

-- the file types of the nodes that are left out, one for each node
unfoldable pub left_out_types : List NodeFields → List ℕ
left_out_types nodes = filter_map left_out_type nodes

-- the types among these that are less than a number, rising
unfoldable pub types_below : ℕ → List ℕ → List ℕ
types_below end types = filter (λ t. list_any (λ u. nat_eq u t) types) (range_with_len 0 end)

-- the types among these, rising, each once
abbrev pub occurring : List ℕ → List ℕ
occurring types = types_below 256 types

-- how many of them the wide rules take for files
unfoldable pub wide_count : List ℕ → ℕ
wide_count types = count_by (is_file_type Wide) types

-- whether they write some of the files that are left out
unfoldable pub wide_writes : List NodeFields → Bool
wide_writes nodes = nat_lt 0 (wide_count (left_out_types nodes))

-- what a type is called (ECMA-167 4/14.6.6; 249 by UDF 2.01 2.3.5.2)
abbrev pub type_name : ℕ → List ℕ
type_name t =
    if t == 0 then codes ", not specified"
    else if t == 6 then codes ", block device"
    else if t == 7 then codes ", character device"
    else if t == 9 then codes ", FIFO"
    else if t == 10 then codes ", socket"
    else if t == 249 then codes ", real-time"
    else []

-- a type by its number, and its name if it has one
abbrev pub type_text : ℕ → List ℕ
type_text t = decimal t ++ type_name t

-- a type that follows another one
abbrev pub further_type : ℕ → List ℕ
further_type t = codes "; " ++ type_text t

-- the types in one list
abbrev pub types_text : List ℕ → List ℕ
types_text [] = []
types_text (t ∷ ts) = type_text t ++ flat_map further_type ts

-- of one type, or of several
unfoldable pub of_types : List ℕ → List ℕ
of_types ts = (if length ts == 1 then codes " of a type that is not written (" else codes " of types that are not written (") ++ types_text ts ++ codes ")"

-- a file, or so many
unfoldable pub files_text : ℕ → List ℕ
files_text count = grouped count ++ (if count == 1 then codes " file" else codes " files")

-- which of so many files: the one, all, or some of them
unfoldable pub which_of : ℕ → ℕ → List ℕ
which_of all some = if some == all then (if all == 1 then codes "it" else codes "them") else grouped some ++ codes " of them"

-- that the wide rules write some of them, if they do
unfoldable pub wide_text : ℕ → ℕ → List ℕ
wide_text all some = if some == 0 then [] else codes ": --profile wide writes " ++ which_of all some

-- how many files are left out, of which types, and what writes them
unfoldable pub left_out_note : List ℕ → List ℕ
left_out_note types = files_text (length types) ++ of_types (occurring types) ++ wide_text (length types) (wide_count types)

-- what is said beside a report, if there are any
abbrev pub remark_of : List ℕ → Option (List ℕ)
remark_of [] = None
remark_of (t ∷ ts) = Some (left_out_note (t ∷ ts))

-- of these nodes
abbrev pub left_out_remark : List NodeFields → Option (List ℕ)
left_out_remark nodes = remark_of (left_out_types nodes)

-- the line of the summary, if there are any
unfoldable pub left_out_line : List ℕ → List ℕ
left_out_line types = if length types == 0 then [] else codes "Other      " ++ left_out_note types ++ codes "\n"
