-- The files and folders, each inside its folder.
--     class_of standing          how whole a node is, as the style knows it
--     note_html tail s k size    what the page says of a node beside its name
--     node_html tail n next inside    a node, whose body is read by a tail or not, and what begins or ends with it
--     tree_html view nodes       all nodes
use Rattle.std.specs.Prelude.{ℕ, Bool, ◌-◌, ◌==◌, ◌&&◌, nat_lt, List, [], ◌∷◌, ◌++◌, Option, Some, None, codes, flat_map, length, if◌then◌else◌}
use Rattle.udfs_file.specs.declared.faults.Kind.{Kind}
use Rattle.udfs_file.specs.declared.faults.Kind.TheVariants as kind
use Rattle.udfs_file.specs.declared.faults.NodeFault.{NodeFault}
use Rattle.udfs_osta.specs.StampTexts.{stamp_text}
use Rattle.udfs_osta.specs.declared.stamps.Stamp.{Stamp}
use Rattle.udfs_space.specs.Places.{View}
use Rattle.udfs_walk.specs.NodeBodies.{has_tail}
use Rattle.udfs_walk.specs.NodeFields.{NodeFields}
use Rattle.udfs_walk.specs.Unsettled.{is_whole}
use Rattle.udfs_walk.specs.declared.standings.Standing.{Standing}
use Rattle.udfs_walk.specs.declared.standings.Standing.TheVariants as standing
use Rattle.udfs_salvage.specs.NodeTexts.{node_fault_number}
use Rattle.udfs_overview.specs.Figures.{size_text}
use Rattle.udfs_overview.specs.NodeLists.{lost_of, short_time}
use Rattle.udfs_overview.specs.SafeNames.{safe_name}
use Rattle.udfs_page.specs.Holes.{closings, ranges_html}
use Rattle.udfs_page.specs.Insides.{inside, inside_html, inside_of}
use Rattle.udfs_page.specs.Markups.{figure, markup, shown_name}
use Rattle.udfs_page.specs.declared.insides.Inside.{Inside}

-- ---- what the page says of a node

-- how whole it is
abbrev pub class_of : Standing → List ℕ
class_of standing.Whole = codes "w"
class_of (standing.Torn torn) = codes "t"
class_of standing.Loop = codes "f"
class_of (standing.Fault f) = codes "f"

-- its name in its folder; `/` for the root
abbrev pub own_name : List (List ℕ) → List ℕ
own_name [] = codes "/"
own_name (name ∷ []) = safe_name name
own_name (name ∷ next ∷ names) = own_name (next ∷ names)

-- how many bytes it has, where that is known
abbrev pub size_html : Option ℕ → List ℕ
size_html None = markup (codes "size not known")
size_html (Some n) = size_text n

-- a type that has no name here
abbrev pub other_html : ℕ → List ℕ
other_html number = markup (codes "of type ") ++ figure number

-- what it is
abbrev pub kind_html : Kind → Option ℕ → List ℕ
kind_html kind.Directory size = markup (codes "folder")
kind_html kind.File size = size_html size
kind_html kind.Link size = markup (codes "link")
kind_html (kind.Other t) size = other_html t
kind_html kind.Unread size = markup (codes "not yet known")

-- how many bytes are lost, and where
abbrev pub known_lost : ℕ → List (ℕ × ℕ) → List ℕ
known_lost lost holes = markup (codes ", torn: ") ++ size_text lost ++ markup (codes " lost, bytes") ++ ranges_html holes

-- what is lost of a torn node, and where
abbrev pub lost_html : Option ℕ → List (ℕ × ℕ) → List ℕ
lost_html None holes = []
lost_html (Some lost) holes = known_lost lost holes

-- a fault
abbrev pub fault_html : NodeFault → List ℕ
fault_html fault = markup (codes ", fault ") ++ figure (node_fault_number fault)

-- how whole it is
abbrev pub standing_html : Standing → Kind → List ℕ
standing_html standing.Whole k = []
standing_html (standing.Torn torn) k = lost_html (lost_of (standing.Torn torn) k) torn.holes
standing_html standing.Loop k = markup (codes ", a loop: it is inside itself")
standing_html (standing.Fault f) k = fault_html f

-- the word of a body that is read by the tail of its last extent, with what that means
abbrev pub tail_html : Bool → List ℕ
tail_html tail = if tail then markup (codes ", <abbr title='The last bytes are read behind its last extent, from the rest of the same block. If the disc was removed between two writes, they may be old.'>tail</abbr>") else []

-- what the page says beside its name
abbrev pub note_html : Bool → Standing → Kind → Option ℕ → List ℕ
note_html tail s k size = markup (codes "<small>") ++ kind_html k size ++ tail_html tail ++ standing_html s k ++ markup (codes "</small>")

-- its name, and what the page says beside it
unfoldable pub told_html : Bool → NodeFields → List ℕ
told_html tail n = shown_name (own_name n.path) ++ note_html tail n.standing n.kind n.size

-- ---- what begins and ends with it

-- how whole a folder is, in which so many entries and folders are not whole: a whole one is marked where there are any
abbrev pub class_in : Standing → ℕ → List ℕ
class_in standing.Whole amiss = if amiss == 0 then codes "w" else codes "i"
class_in (standing.Torn torn) amiss = codes "t"
class_in standing.Loop amiss = codes "f"
class_in (standing.Fault f) amiss = codes "f"

-- a folder is shut where all of it is whole; the root never is
abbrev pub is_shut : ℕ → Standing → ℕ → Bool
is_shut depth s amiss = nat_lt 0 depth && is_whole s && amiss == 0

-- what a folder begins with
abbrev pub details_front : Bool → List ℕ
details_front shut = if shut then markup (codes "<details class=") else markup (codes "<details open class=")

-- a folder begins, in which there is something
abbrev pub folder_front : ℕ → Standing → ℕ → List ℕ
folder_front depth s amiss = details_front (is_shut depth s amiss) ++ markup (class_in s amiss) ++ markup (codes "><summary>")

-- the node begins a folder, which has this inside it
abbrev pub folder_html : Bool → NodeFields → Inside → List ℕ
folder_html tail n held = folder_front (length n.path) n.standing held.amiss ++ told_html tail n ++ inside_html held ++ markup (codes "</summary>\n")

-- what the line of a node begins with
abbrev pub leaf_front : Standing → List ℕ
leaf_front s = markup (codes "<div class=") ++ markup (class_of s) ++ markup (codes ">")

-- the time of its last change, where that is known
abbrev pub date_html : Option Stamp → List ℕ
date_html None = []
date_html (Some stamp) = markup (codes "<small>") ++ short_time (stamp_text stamp) ++ markup (codes "</small>")

-- the line of the node, after which `ended` folders end
abbrev pub leaf_html : Bool → NodeFields → ℕ → List ℕ
leaf_html tail n ended = leaf_front n.standing ++ told_html tail n ++ date_html n.stamp ++ markup (codes "</div>\n") ++ closings ended

-- a node, by how many names the path of the next one has, and what is inside it
unfoldable pub node_html : Bool → NodeFields → ℕ → Inside → List ℕ
node_html tail n next held = if nat_lt (length n.path) next then folder_html tail n held else leaf_html tail n (length n.path - next)

-- ---- all nodes

-- how many names the path of the first node has
abbrev pub first_depth : List NodeFields → ℕ
first_depth [] = 0
first_depth (n ∷ ns) = length n.path

-- each node, and those behind it
abbrev pub with_rest : List NodeFields → List (NodeFields × List NodeFields)
with_rest [] = []
with_rest (n ∷ ns) = (n, ns) ∷ with_rest ns

-- a node in a view, with those behind it
abbrev pub node_in : View → NodeFields × List NodeFields → List ℕ
node_in view p = node_html (has_tail view p.0.icb) p.0 (first_depth p.1) (inside_of (inside (length p.0.path) p.1))

-- the nodes in their order, in which those of a folder come after it
unfoldable pub nodes_html : View → List NodeFields → List ℕ
nodes_html view nodes = flat_map (node_in view) (with_rest nodes)

-- all nodes
abbrev pub tree_html : View → List NodeFields → List ℕ
tree_html view nodes = markup (codes "<h2>All files</h2>\n") ++ nodes_html view nodes
