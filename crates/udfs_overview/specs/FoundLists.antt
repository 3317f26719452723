-- The list of names that are found behind holes of torn folders, behind that of lost folders and lost files. A name that is found is evidence and no proof, so that each
-- line says `found` behind its path, and in front of that what the entry is called by its block. What has such a line has no other: no line of its own in the list before,
-- and what is in a folder stands there below what the folder is called by its block. Where only paths are asked for there are none of these lines: a path alone does not
-- say that it was found.
--     found_line form view two word path f      the line of a name found in the folder at a path, in a lost tree of this word, or in the volume's tree, where it is empty
--     all_found form view two names nodes trees     those of all names that are found in torn folders: of the volume that has these nodes, and then of lost trees
--     found_lines form deleted view two nodes entries trees    those of names of these entries
--     named form deleted view nodes entries trees icb    one of these lines is that of the entry at an information control block
use Rattle.std.specs.Prelude.{◌&&◌, Bool, not, ℕ, List, [], ◌∷◌, ◌++◌, flat_map, map, Some, codes, if◌then◌else◌}
use Rattle.serde_json.specs.Data.{string}
use Rattle.serde_json.specs.Written.{compact_text}
use Rattle.udfs_tag.specs.declared.layouts.LongAd.{LongAd}
use Rattle.udfs_space.specs.Places.{View}
use Rattle.udfs_walk.specs.NodeBodies.{has_tail}
use Rattle.udfs_walk.specs.NodeFields.{NodeFields}
use Rattle.udfs_walk.specs.Targets.{Icb}
use Rattle.udfs_walk.specs.UnnamedEntries.{address_of}
use Rattle.udfs_walk.specs.Unsettled.{is_whole}
use Rattle.udfs_walk.specs.declared.answers.Unnamed.{Unnamed}
use Rattle.udfs_lost.specs.Folders.{icb_of_entry}
use Rattle.udfs_lost.specs.FoundNames.{Found, found_names, full_found, is_found, torn_folders, unplaced}
use Rattle.udfs_lost.specs.declared.trees.LostTree.{LostTree}
use Rattle.udfs_overview.specs.LostLists.{Named, lost_line, lost_word}
use Rattle.udfs_overview.specs.NodeLists.{safe_path}
use Rattle.udfs_overview.specs.declared.node_list.ListForm.{ListForm}

-- what it is called where it is listed as lost, and that this name of it was found
abbrev pub found_columns : Bool → Icb → List ℕ
found_columns two icb = codes "\t" ++ lost_word two icb ++ codes "\tfound"

-- the same as the member `found` of a JSON object
abbrev pub found_member : Bool → Icb → List ℕ
found_member two icb = codes ",\"found\":" ++ compact_text (string (lost_word two icb))

-- the mark of a line
abbrev pub found_mark : ListForm → Bool → Icb → List ℕ
found_mark form two icb = if form.json then found_member two icb else found_columns two icb

-- the path of a name in a folder of the tree of this word
abbrev pub found_path : List ℕ → List (List ℕ) → List ℕ → List ℕ
found_path word path name = word ++ safe_path path ++ safe_path (name ∷ [])

-- the line of a name that is found
unfoldable pub found_line : ListForm → View → Bool → List ℕ → List (List ℕ) → Found → List ℕ
found_line form view two word path f = if form.torn && is_whole f.lost.standing then []
    else lost_line form (has_tail view (address_of (icb_of_entry f.lost))) f.lost.standing f.lost.kind (Some f.lost.size) (Some f.lost.stamp) (found_path word path f.name) (found_mark form two (icb_of_entry f.lost))

-- the names that are found at an address
abbrev pub Names : Type 0
Names = LongAd → List Found

-- the lines of those of a torn folder
abbrev pub folder_found : ListForm → View → Bool → Names → List ℕ → NodeFields → List ℕ
folder_found form view two names word n = flat_map (found_line form view two word n.path) (names n.icb)

-- of the torn folders among nodes
abbrev pub folders_found : ListForm → View → Bool → Names → List ℕ → List NodeFields → List ℕ
folders_found form view two names word nodes = flat_map (folder_found form view two names word) (torn_folders nodes)

-- of a lost tree
unfoldable pub tree_found : ListForm → View → Bool → Names → LostTree → List ℕ
tree_found form view two names t = folders_found form view two names (lost_word two t.folder) t.nodes.items

-- of a volume that has these nodes, and then of lost trees
unfoldable pub all_found : ListForm → View → Bool → Names → List NodeFields → List LostTree → List ℕ
all_found form view two names nodes trees = folders_found form view two names [] nodes ++ flat_map (tree_found form view two names) trees

-- of all names of entries that no name leads to, unless only paths are asked for
unfoldable pub found_lines : ListForm → Bool → View → Bool → List NodeFields → List Unnamed → List LostTree → List ℕ
found_lines form deleted view two nodes entries trees = if form.paths then [] else all_found form view two (found_names view (unplaced view deleted trees entries)) nodes trees

-- which entries have a name among them
abbrev pub named : ListForm → Bool → View → List NodeFields → List Unnamed → List LostTree → Named
named form deleted view nodes entries trees icb = not form.paths && is_found view (unplaced view deleted trees entries) nodes trees icb

-- what code has of them: the names of entries without their blocks and holes, which are found again
abbrev pub full_names : View → List Unnamed → Names
full_names view us a = map (full_found view) (found_names view us a)
