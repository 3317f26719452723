-- The list of nodes, a line for each but the root.
--     lost_of standing kind    how many bytes of a node are lost
--     list_line form tail n           the line of a node, whose body is read by a tail or not
--     header_line form                the columns' names, where they are asked for
--     list_text form blocks report    the lines of all nodes after the root that are asked for
use Rattle.std.specs.Prelude.{ℕ, ◌-◌, ◌&&◌, Bool, false, not, List, [], ◌∷◌, ◌++◌, drop, flat_map, length, sum_by, take, Option, Some, None, codes, decimal, if◌then◌else◌}
use Rattle.std.specs.Str.{bytes_eq}
use Rattle.serde_json.specs.Data.{string}
use Rattle.serde_json.specs.Written.{compact_text}
use Rattle.udfs_lattice.specs.Volumes.{Blocks}
use Rattle.udfs_volume.specs.Answers as answer
use Rattle.udfs_volume.specs.Answers.{Answer}
use Rattle.udfs_space.specs.Places.{View, view}
use Rattle.udfs_walk.specs.NodeBodies.{has_tail}
use Rattle.udfs_salvage.specs.Found.{Found}
use Rattle.udfs_salvage.specs.Reports.{Report}
use Rattle.udfs_salvage.specs.Surveys.{full_nodes}
use Rattle.udfs_osta.specs.StampTexts.{stamp_text}
use Rattle.udfs_osta.specs.declared.stamps.Stamp.{Stamp}
use Rattle.udfs_file.specs.declared.faults.Kind.{Kind}
use Rattle.udfs_file.specs.declared.faults.Kind.TheVariants as kind
use Rattle.udfs_walk.specs.NodeFields.{NodeFields}
use Rattle.udfs_walk.specs.declared.standings.Standing.{Standing}
use Rattle.udfs_walk.specs.declared.standings.Standing.TheVariants as standing
use Rattle.udfs_salvage.specs.NodeTexts.{kind_name, node_fault_number}
use Rattle.udfs_walk.specs.Unsettled.{is_whole}
use Rattle.udfs_overview.specs.SafeNames.{safe_name}
use Rattle.udfs_overview.specs.declared.node_list.ListForm.{ListForm}

-- how many bytes all holes have
abbrev pub lost_bytes : List (ℕ × ℕ) → ℕ
lost_bytes holes = sum_by (λ (hole : ℕ × ℕ). hole.1) holes

-- what is lost of a torn node: its holes' bytes; unknown of one that was not read
abbrev pub torn_lost : Kind → List (ℕ × ℕ) → Option ℕ
torn_lost kind.Unread holes = None
torn_lost kind.Directory holes = Some (lost_bytes holes)
torn_lost kind.File holes = Some (lost_bytes holes)
torn_lost kind.Link holes = Some (lost_bytes holes)
torn_lost (kind.Other t) holes = Some (lost_bytes holes)

-- what is lost of a node: nothing of a whole one; unknown of loops and faults
abbrev pub lost_of : Standing → Kind → Option ℕ
lost_of standing.Whole k = Some 0
lost_of (standing.Torn torn) k = torn_lost k torn.holes
lost_of standing.Loop k = None
lost_of (standing.Fault f) k = None

-- ---- columns

-- the text of a standing
abbrev pub standing_word : Standing → List ℕ
standing_word standing.Whole = codes "whole"
standing_word (standing.Torn torn) = codes "torn"
standing_word standing.Loop = codes "loop"
standing_word (standing.Fault f) = codes "fault " ++ decimal (node_fault_number f)

-- a number; `-` where it is not known
abbrev pub number_text : Option ℕ → List ℕ
number_text None = codes "-"
number_text (Some n) = decimal n

-- a kind; `unknown` of an entry that was not read
abbrev pub kind_word : Kind → List ℕ
kind_word kind.Directory = kind_name kind.Directory
kind_word kind.File = kind_name kind.File
kind_word kind.Link = kind_name kind.Link
kind_word (kind.Other t) = kind_name (kind.Other t)
kind_word kind.Unread = codes "unknown"

-- a text has this ending
abbrev pub ends_with : List ℕ → List ℕ → Bool
ends_with text ending = bytes_eq (drop (length text - length ending) text) ending

-- the text of a time without the fraction of its second where that is 0, before the `Z` of UTC or at the end
abbrev pub short_time : List ℕ → List ℕ
short_time text =
    if ends_with text (codes ".000000Z") then take (length text - 8) text ++ codes "Z"
    else (if ends_with text (codes ".000000") then take (length text - 7) text else text)

-- a time; `-` where it is not known
abbrev pub time_text : Option Stamp → List ℕ
time_text None = codes "-"
time_text (Some stamp) = short_time (stamp_text stamp)

-- each name of a path after a `/`, as a person is shown it
abbrev pub safe_path : List (List ℕ) → List ℕ
safe_path names = flat_map (λ n. codes "/" ++ safe_name n) names

-- a column ends with a tab
abbrev pub column : List ℕ → List ℕ
column text = text ++ 9 ∷ []

-- the columns before the path
unfoldable pub told_columns : Standing → Kind → Option ℕ → Option Stamp → List ℕ
told_columns s k size stamp =
    column (standing_word s) ++ column (kind_word k) ++ column (number_text (lost_of s k)) ++ column (number_text size) ++ column (time_text stamp)

-- ---- objects

-- a number; null where it is not known
abbrev pub number_json : Option ℕ → List ℕ
number_json None = codes "null"
number_json (Some n) = decimal n

-- a time, with its fraction; null where it is not known
abbrev pub time_json : Option Stamp → List ℕ
time_json None = codes "null"
time_json (Some stamp) = codes "\"" ++ stamp_text stamp ++ codes "\""

-- the standing
unfoldable pub standing_json : Standing → List ℕ
standing_json s = codes "\"standing\":\"" ++ standing_word s

-- the kind, as the report has it
unfoldable pub kind_json : Kind → List ℕ
kind_json k = codes "\",\"kind\":\"" ++ kind_name k

-- the members before the path, named as the columns
unfoldable pub told_json : Standing → Kind → Option ℕ → Option Stamp → List ℕ
told_json s k size stamp =
    standing_json s ++ kind_json k ++ codes "\",\"lost\":" ++ number_json (lost_of s k) ++ codes ",\"size\":" ++ number_json size ++ codes ",\"time\":" ++ time_json stamp ++ codes ","

-- nothing where only paths are asked for
abbrev pub front_json : ListForm → NodeFields → List ℕ
front_json form n = if form.paths then [] else told_json n.standing n.kind n.size n.stamp

-- the mark of a body that is read by the tail of its last extent: not where only paths are asked for
abbrev pub tail_json : ListForm → Bool → List ℕ
tail_json form tail = if tail && not form.paths then codes ",\"tail\":true" else []

-- the object of a node: the path is as a person is shown it, in the quotes of JSON
unfoldable pub object_text : ListForm → Bool → NodeFields → List ℕ
object_text form tail n = codes "{" ++ front_json form n ++ codes "\"path\":" ++ compact_text (string (safe_path n.path)) ++ tail_json form tail ++ codes "}"

-- ---- lines

-- a line ends with a line feed, or with a zero byte
abbrev pub line_end : ListForm → List ℕ
line_end form = if form.null then 0 ∷ [] else 10 ∷ []

-- the columns before the path: nothing where only paths are asked for
abbrev pub front_columns : ListForm → NodeFields → List ℕ
front_columns form n = if form.paths then [] else told_columns n.standing n.kind n.size n.stamp

-- behind the path, the word of a body that is read by the tail of its last extent: not where only paths are asked for
abbrev pub tail_column : ListForm → Bool → List ℕ
tail_column form tail = if tail && not form.paths then 9 ∷ codes "tail" else []

-- the columns of a node, whose body is read so or not
unfoldable pub columns : ListForm → Bool → NodeFields → List ℕ
columns form tail n = front_columns form n ++ safe_path n.path ++ tail_column form tail

-- the line of a node: its columns, or its JSON object
unfoldable pub list_line : ListForm → Bool → NodeFields → List ℕ
list_line form tail n = (if form.json then object_text form tail n else columns form tail n) ++ line_end form

-- a whole node is left out where only others are asked for
unfoldable pub listed : ListForm → Bool → NodeFields → List ℕ
listed form tail n = if form.torn && is_whole n.standing then [] else list_line form tail n

-- the line of a node in a view
abbrev pub listed_in : ListForm → View → NodeFields → List ℕ
listed_in form view n = listed form (has_tail view n.icb) n

-- the lines of nodes, by what a volume is: what does not open has no tails
abbrev pub lines_by : ListForm → Blocks → Answer Found → List NodeFields → List ℕ
lines_by form blocks (answer.found f) nodes = flat_map (listed_in form (view blocks f.space)) nodes
lines_by form blocks (answer.holes unread) nodes = flat_map (listed form false) nodes
lines_by form blocks (answer.faulty fault) nodes = flat_map (listed form false) nodes

-- the same of all nodes after the root, which are given without what is missing of them
abbrev pub bare_lines : ListForm → Blocks → Answer Found → List NodeFields → List ℕ
bare_lines form blocks volume bare = lines_by form blocks volume (drop 1 (full_nodes blocks volume bare))

-- the columns' names, or that of the path
abbrev pub column_names : ListForm → List ℕ
column_names form = if form.paths then codes "path" else codes "standing\tkind\tlost\tsize\ttime\tpath"

-- the first line, where it is asked for: objects have none, since they name their values themselves
unfoldable pub header_line : ListForm → List ℕ
header_line form = if form.header && not form.json then column_names form ++ line_end form else []

-- the first line, and the lines of the nodes of a report after the root, which is the first
unfoldable pub list_text : ListForm → Blocks → Report → List ℕ
list_text form blocks report = header_line form ++ lines_by form blocks report.volume (drop 1 report.nodes)
