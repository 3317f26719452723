-- The list of lost folders and lost files, behind that of the nodes. Names come from lost trees, paths begin with `lost:` and a block.
--     lost_word two icb                  what a lost folder or a lost file is called
--     place_of view nodes folder         the path of the directory in which a folder is, as it says itself
--     tree_lines form view two named nodes t   the lines of a lost tree
--     file_line form view two named u          the line of a lost file
--     lost_lines form deleted view two named nodes entries trees    the lines of all lost trees, and of the lost files that they do not name: what is named elsewhere
--                                              has no line of its own
use Rattle.std.specs.Prelude.{ℕ, ◌&&◌, Bool, false, List, [], ◌∷◌, ◌++◌, flat_map, map, Option, Some, None, option_map, codes, decimal, if◌then◌else◌}
use Rattle.std.specs.List.{find}
use Rattle.serde_json.specs.Data.{string}
use Rattle.serde_json.specs.Written.{compact_text}
use Rattle.udfs_tag.specs.declared.layouts.LongAd.{LongAd}
use Rattle.udfs_osta.specs.declared.stamps.Stamp.{Stamp}
use Rattle.udfs_space.specs.Places.{View}
use Rattle.udfs_file.specs.declared.faults.Kind.{Kind}
use Rattle.udfs_walk.specs.Bare.{full_node}
use Rattle.udfs_walk.specs.NodeBodies.{has_tail}
use Rattle.udfs_walk.specs.NodeFields.{NodeFields}
use Rattle.udfs_walk.specs.Targets.{Icb, icb_of}
use Rattle.udfs_walk.specs.UnnamedEntries.{address_of, names}
use Rattle.udfs_walk.specs.Unsettled.{is_whole}
use Rattle.udfs_walk.specs.declared.answers.Unnamed.{Unnamed}
use Rattle.udfs_walk.specs.declared.standings.Standing.{Standing}
use Rattle.udfs_lost.specs.Folders.{icb_of_entry, is_directory}
use Rattle.udfs_lost.specs.LostFiles.{lost_files}
use Rattle.udfs_lost.specs.Parents.{parent_at}
use Rattle.udfs_lost.specs.declared.trees.LostTree.{LostTree}
use Rattle.udfs_overview.specs.NodeLists.{line_end, safe_path, tail_column, tail_json, told_columns, told_json}
use Rattle.udfs_overview.specs.TornLists.{shown_path}
use Rattle.udfs_overview.specs.declared.node_list.ListForm.{ListForm}

-- ---- words

-- `lost:` and the block, with the partition reference in front where there are two partitions
abbrev pub lost_word : Bool → Icb → List ℕ
lost_word two icb = codes "lost:" ++ (if two then decimal icb.reference ++ codes "-" else []) ++ decimal icb.block

-- the path of a node of a lost tree; the folder's own ends with a `/`
abbrev pub lost_path : List ℕ → List (List ℕ) → List ℕ
lost_path word [] = word ++ codes "/"
lost_path word (name ∷ names) = word ++ safe_path (name ∷ names)

-- ---- places

-- a node is a directory, and its good address leads there
abbrev pub is_folder_at : View → Icb → NodeFields → Bool
is_folder_at view icb n = is_directory n.kind && names view icb n

-- the path of the first node that is the directory at an address, if there is one
abbrev pub folder_at : View → List NodeFields → Option LongAd → Option (List (List ℕ))
folder_at view nodes None = None
folder_at view nodes (Some a) = option_map (λ (n : NodeFields). n.path) (find (is_folder_at view (icb_of a)) nodes)

-- that of the directory in which a folder is, as its parent's identifier says (ECMA-167 4/14.4.3)
abbrev pub place_of : View → List NodeFields → Icb → Option (List (List ℕ))
place_of view nodes folder = folder_at view nodes (parent_at view folder)

-- a path behind the word `in`
abbrev pub in_place : Option (List (List ℕ)) → List ℕ
in_place None = []
in_place (Some path) = 9 ∷ codes "in " ++ shown_path path

-- a path as the member `in` of a JSON object
abbrev pub in_member : Option (List (List ℕ)) → List ℕ
in_member None = []
in_member (Some path) = codes ",\"in\":" ++ compact_text (string (shown_path path))

-- the column of a folder's place, or the member: not where only paths are asked for
abbrev pub place_column : ListForm → Option (List (List ℕ)) → List ℕ
place_column form place = if form.paths then [] else (if form.json then in_member place else in_place place)

-- it stands behind the path of the folder itself
abbrev pub own_place : List (List ℕ) → List ℕ → List ℕ
own_place [] place = place
own_place (name ∷ names) place = []

-- ---- lines

-- the columns before the path: nothing where only paths are asked for
abbrev pub lost_columns : ListForm → Standing → Kind → Option ℕ → Option Stamp → List ℕ
lost_columns form s k size stamp = if form.paths then [] else told_columns s k size stamp

-- the members before the path: likewise
abbrev pub lost_members : ListForm → Standing → Kind → Option ℕ → Option Stamp → List ℕ
lost_members form s k size stamp = if form.paths then [] else told_json s k size stamp

-- the object of what is lost, at a path and with the member of its folder's place
unfoldable pub lost_object : ListForm → Bool → Standing → Kind → Option ℕ → Option Stamp → List ℕ → List ℕ → List ℕ
lost_object form tail s k size stamp path place = codes "{" ++ lost_members form s k size stamp ++ codes "\"path\":" ++ compact_text (string path) ++ tail_json form tail ++ place ++ codes "}"

-- its columns
unfoldable pub lost_row : ListForm → Bool → Standing → Kind → Option ℕ → Option Stamp → List ℕ → List ℕ → List ℕ
lost_row form tail s k size stamp path place = lost_columns form s k size stamp ++ path ++ tail_column form tail ++ place

-- its line: its columns, or its object
unfoldable pub lost_line : ListForm → Bool → Standing → Kind → Option ℕ → Option Stamp → List ℕ → List ℕ → List ℕ
lost_line form tail s k size stamp path place =
    (if form.json then lost_object form tail s k size stamp path place else lost_row form tail s k size stamp path place) ++ line_end form

-- a path is that of the folder itself, which is named elsewhere
abbrev pub is_own : Bool → List (List ℕ) → Bool
is_own named [] = named
is_own named (name ∷ names) = false

-- the line of a node of a lost tree of this name and with the column of its folder's place; the folder has none where it is named elsewhere
unfoldable pub node_line : ListForm → View → List ℕ → List ℕ → Bool → NodeFields → List ℕ
node_line form view word place named n = if is_own named n.path then [] else if form.torn && is_whole n.standing then []
    else lost_line form (has_tail view n.icb) n.standing n.kind n.size n.stamp (lost_path word n.path) (own_place n.path place)

-- which entries are named elsewhere
abbrev pub Named : Type 0
Named = Icb → Bool

-- the lines of a lost tree
unfoldable pub tree_lines : ListForm → View → Bool → Named → List NodeFields → LostTree → List ℕ
tree_lines form view two named nodes t =
    flat_map (node_line form view (lost_word two t.folder) (place_column form (place_of view nodes t.folder)) (named t.folder)) (map (full_node view) t.nodes.items)

-- the line of a lost file, which has none where it is named elsewhere
unfoldable pub file_line : ListForm → View → Bool → Named → Unnamed → List ℕ
file_line form view two named u = if named (icb_of_entry u) then [] else if form.torn && is_whole u.standing then []
    else lost_line form (has_tail view (address_of (icb_of_entry u))) u.standing u.kind (Some u.size) (Some u.stamp) (lost_word two (icb_of_entry u)) []

-- all lines in a view, of lost trees and then of lost files
abbrev pub lost_lines : ListForm → Bool → View → Bool → Named → List NodeFields → List Unnamed → List LostTree → List ℕ
lost_lines form deleted view two named nodes entries trees =
    flat_map (tree_lines form view two named nodes) trees ++ flat_map (file_line form view two named) (lost_files view deleted trees entries)
