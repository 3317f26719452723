-- The text of nodes, and of entries that no name leads to.
--     nodes_text i nodes           the lines of nodes, of which the first has this number
--     unnamed_texts two entries    the lines of the entries
--     report_text table last r     all lines of a report
use Rattle.std.specs.Prelude.{ℕ, ◌+◌, Bool, List, [], ◌∷◌, ◌++◌, flat_map, cond, Option, Some, None, codes, decimal}
use Rattle.udfs_volume.specs.declared.profiles.Profile.{Profile}
use Rattle.udfs_volume.specs.declared.profiles.Profile.TheVariants.{Strict}
use Rattle.udfs_osta.specs.Escapes.{escaped}
use Rattle.udfs_osta.specs.StampTexts.{stamp_text}
use Rattle.udfs_osta.specs.declared.stamps.Stamp.{Stamp}
use Rattle.udfs_file.specs.declared.faults.Kind.{Kind}
use Rattle.udfs_file.specs.declared.faults.Kind.TheVariants as kind
use Rattle.udfs_file.specs.declared.faults.NodeFault.{NodeFault}
use Rattle.udfs_file.specs.declared.faults.NodeFault.TheVariants as fault
use Rattle.udfs_walk.specs.NodeFields.{NodeFields}
use Rattle.udfs_walk.specs.declared.standings.Standing.{Standing}
use Rattle.udfs_walk.specs.declared.standings.Standing.TheVariants as standing
use Rattle.udfs_walk.specs.declared.answers.Unnamed.{Unnamed}
use Rattle.udfs_lattice.specs.Tables.{Table, state_of}
use Rattle.udfs_salvage.specs.Reports.{Report}
use Rattle.udfs_salvage.specs.Texts.{end_line, has_two, head_text_by, line, reread_lines}

-- the number of a node's fault
abbrev pub node_fault_number : NodeFault → ℕ
node_fault_number fault.Tag = 1
node_fault_number fault.Strategy = 2
node_fault_number fault.Descriptors = 3
node_fault_number fault.Lengths = 4
node_fault_number fault.Reference = 5
node_fault_number fault.Range = 6
node_fault_number fault.Short = 7
node_fault_number fault.Chain = 8
node_fault_number fault.Odd = 9
node_fault_number fault.IdentifierTag = 10
node_fault_number fault.Name = 11
node_fault_number fault.Cut = 12
node_fault_number fault.Depth = 13

-- ---- fields

-- a keyword, and the number after it where it has one
abbrev pub word_text : List ℕ → Option ℕ → List ℕ
word_text word None = word
word_text word (Some n) = word ++ decimal n

-- the keyword for a standing
abbrev pub standing_name : Standing → List ℕ
standing_name standing.Whole = codes "whole"
standing_name (standing.Torn torn) = codes "torn"
standing_name standing.Loop = codes "loop"
standing_name (standing.Fault f) = codes "fault-" ++ decimal (node_fault_number f)

-- the keyword for a kind
abbrev pub kind_name : Kind → List ℕ
kind_name kind.Directory = codes "directory"
kind_name kind.File = codes "file"
kind_name kind.Link = codes "link"
kind_name (kind.Other t) = codes "other-" ++ decimal t
kind_name kind.Unread = codes "unread"

-- a `/`, and then a name in its escaped form
abbrev pub name_text : List ℕ → List ℕ
name_text name = codes "/" ++ escaped name

-- each name in its escaped form, after a `/`
abbrev pub names_text : List (List ℕ) → List ℕ
names_text names = flat_map name_text names

-- the root has no name
abbrev pub path_name : List (List ℕ) → List ℕ
path_name [] = codes "/"
path_name (name ∷ names) = names_text (name ∷ names)

-- ---- the same, a space before each

-- a space and a standing
abbrev pub standing_text : Standing → List ℕ
standing_text s = codes " " ++ standing_name s

-- a space and a kind
abbrev pub kind_text : Kind → List ℕ
kind_text k = codes " " ++ kind_name k

-- a space and a path
abbrev pub path_text : List (List ℕ) → List ℕ
path_text path = codes " " ++ path_name path

-- a space and a size; `-` for one that is not known
abbrev pub size_text : Option ℕ → List ℕ
size_text None = codes " -"
size_text (Some n) = codes " " ++ decimal n

-- a space and a timestamp; `-` for one that is not known
abbrev pub stamp_column : Option Stamp → List ℕ
stamp_column None = codes " -"
stamp_column (Some stamp) = codes " " ++ stamp_text stamp

-- the columns that a node and an entry without a name share: standing, kind, size and timestamp
unfoldable pub told_text : Standing → Kind → Option ℕ → Option Stamp → List ℕ
told_text s k size stamp = standing_text s ++ kind_text k ++ size_text size ++ stamp_column stamp

-- ---- what is missing of a torn node

-- the line of a block that is missing
abbrev pub missing_line : ℕ → List ℕ
missing_line block = line (codes "missing " ++ decimal block)

-- the line of a hole: its first byte and how many
abbrev pub hole_line : ℕ × ℕ → List ℕ
hole_line run = line (codes "hole " ++ decimal run.0 ++ codes " " ++ decimal run.1)

-- the lines of the blocks that are missing
abbrev pub missing_lines : List ℕ → List ℕ
missing_lines blocks = flat_map missing_line blocks

-- the lines of the holes
abbrev pub hole_lines : List (ℕ × ℕ) → List ℕ
hole_lines runs = flat_map hole_line runs

-- the lines of what a torn node lacks
unfoldable pub gap_lines : Standing → List ℕ
gap_lines standing.Whole = []
gap_lines (standing.Torn torn) = missing_lines torn.missing ++ hole_lines torn.holes
gap_lines standing.Loop = []
gap_lines (standing.Fault f) = []

-- ---- nodes

-- the line of a node
unfoldable pub node_line : ℕ → NodeFields → List ℕ
node_line i n = line (codes "node " ++ decimal i ++ told_text n.standing n.kind n.size n.stamp ++ path_text n.path)

-- the lines of a node, with what it lacks
abbrev pub node_text : ℕ → NodeFields → List ℕ
node_text i n = node_line i n ++ gap_lines n.standing

-- the lines of nodes, the first of which has this number
unfoldable pub nodes_text : ℕ → List NodeFields → List ℕ
nodes_text i [] = []
nodes_text i (n ∷ ns) = node_text i n ++ nodes_text (i + 1) ns

-- ---- entries that no name leads to

-- an entry's block, after its partition reference where there are two partitions
abbrev pub place_text : Bool → Unnamed → List ℕ
place_text two u = cond two (decimal u.reference ++ codes ":" ++ decimal u.block) (decimal u.block)

-- the line of an entry without a name
unfoldable pub unnamed_line : Bool → Unnamed → List ℕ
unnamed_line two u = line (codes "unnamed " ++ place_text two u ++ told_text u.standing u.kind (Some u.size) (Some u.stamp))

-- the lines of an entry without a name, with what it lacks
abbrev pub unnamed_text : Bool → Unnamed → List ℕ
unnamed_text two u = unnamed_line two u ++ gap_lines u.standing

-- the lines of all entries without a name
abbrev pub unnamed_texts : Bool → List Unnamed → List ℕ
unnamed_texts two us = flat_map (unnamed_text two) us

-- ---- all of it

-- the text of a report
unfoldable pub report_text_by : Profile → Table → ℕ → Report → List ℕ
report_text_by profile table last report =
    head_text_by profile table last report.volume ++ nodes_text 0 report.nodes ++ unnamed_texts (has_two report.volume) report.unnamed
    ++ reread_lines (state_of table) report.reread ++ end_line

-- the same by the strict rules
abbrev pub report_text : Table → ℕ → Report → List ℕ
report_text = report_text_by Strict
