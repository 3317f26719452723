-- What is lost of a volume: the trees of its lost folders, each node inside its folder, and the lost files that no such tree names.
--     lost_tree_html view two nodes t       the tree of a lost folder, of a volume that has these nodes
--     lost_file_html view two u             a lost file
--     lost_html words rules last searched nodes answer    all of it, where it was looked for and this answer has the trees and their figures
use Rattle.std.specs.Prelude.{ℕ, ◌==◌, ◌&&◌, Bool, false, List, [], ◌∷◌, ◌++◌, Option, Some, None, codes, flat_map, length, map, if◌then◌else◌}
use Rattle.udfs_volume.specs.declared.profiles.Profile.{Profile}
use Rattle.udfs_space.specs.Places.{View}
use Rattle.udfs_walk.specs.Bare.{full_node}
use Rattle.udfs_walk.specs.NodeBodies.{has_tail}
use Rattle.udfs_walk.specs.NodeFields.{NodeFields}
use Rattle.udfs_walk.specs.Targets.{Icb}
use Rattle.udfs_walk.specs.UnnamedEntries.{address_of}
use Rattle.udfs_walk.specs.declared.answers.Unnamed.{Unnamed}
use Rattle.udfs_lost.specs.Folders.{icb_of_entry}
use Rattle.udfs_lost.specs.LostFiles.{lost_files}
use Rattle.udfs_lost.specs.declared.trees.LostTree.{LostTree}
use Rattle.udfs_overview.specs.LostLists.{lost_word, place_of}
use Rattle.udfs_overview.specs.NextCommands.{inputs_end}
use Rattle.udfs_overview.specs.Repeating.{GivenWords, disc_words}
use Rattle.udfs_overview.specs.Searched.{Searched}
use Rattle.udfs_overview.specs.TornLists.{shown_path}
use Rattle.udfs_overview.specs.declared.lost_tallies.LostTally.{LostTally}
use Rattle.udfs_overview.specs.declared.verdicts.Verdict.{Verdict}
use Rattle.udfs_page.specs.Insides.{inside_html, inside_of}
use Rattle.udfs_page.specs.Markups.{markup, shown_name}
use Rattle.udfs_page.specs.NextSteps.{commands_html}
use Rattle.udfs_page.specs.Trees.{date_html, folder_front, leaf_front, nodes_html, note_html}
use Rattle.udfs_page.specs.declared.insides.Inside.{Inside}

-- ---- a lost tree

-- the folder in which a lost folder is
abbrev pub place_html : List (List ℕ) → List ℕ
place_html path = markup (codes "<small>in ") ++ shown_name (shown_path path) ++ markup (codes "</small>")

-- where a lost folder is, if that is a node
abbrev pub in_html : Option (List (List ℕ)) → List ℕ
in_html None = []
in_html (Some path) = place_html path

-- the lost folder begins, which has no name but its block, whose body is read by a tail or not, and which has this inside it
unfoldable pub root_html : Bool → Bool → Option (List (List ℕ)) → Icb → NodeFields → Inside → List ℕ
root_html tail two place folder n held =
    folder_front 1 n.standing held.amiss ++ markup (codes "<bdi>") ++ lost_word two folder ++ markup (codes "/</bdi>")
    ++ note_html tail n.standing n.kind n.size ++ inside_html held ++ in_html place ++ markup (codes "</summary>\n")

-- a folder in which there is nothing ends behind itself, and each other one behind what is in it
abbrev pub root_end : List NodeFields → List ℕ
root_end [] = markup (codes "</details>\n")
root_end (n ∷ ns) = []

-- the nodes of a lost tree: the folder first, and then all that is in it
unfoldable pub rooted_html : View → Bool → Option (List (List ℕ)) → Icb → List NodeFields → List ℕ
rooted_html view two place folder [] = []
rooted_html view two place folder (n ∷ ns) = root_html (has_tail view n.icb) two place folder n (inside_of ns) ++ nodes_html view ns ++ root_end ns

-- a lost tree
unfoldable pub lost_tree_html : View → Bool → List NodeFields → LostTree → List ℕ
lost_tree_html view two nodes t = rooted_html view two (place_of view nodes t.folder) t.folder (map (full_node view) t.nodes.items)

-- ---- lost files

-- a lost file, which has no name but its block, and whose body is read by a tail or not
unfoldable pub file_html : Bool → Bool → Unnamed → List ℕ
file_html tail two u =
    leaf_front u.standing ++ markup (codes "<bdi>") ++ lost_word two (icb_of_entry u) ++ markup (codes "</bdi>")
    ++ note_html tail u.standing u.kind (Some u.size) ++ date_html (Some u.stamp) ++ markup (codes "</div>\n")

-- a lost file in a view
abbrev pub lost_file_html : View → Bool → Unnamed → List ℕ
lost_file_html view two u = file_html (has_tail view (address_of (icb_of_entry u))) two u

-- lost files, folded as what is in a folder
unfoldable pub some_files_html : View → Bool → List Unnamed → List ℕ
some_files_html view two us =
    markup (codes "<details class=w><summary>Files without a folder</summary>\n") ++ flat_map (lost_file_html view two) us ++ markup (codes "</details>\n")

-- nothing where there are none
abbrev pub lost_files_html : View → Bool → List Unnamed → List ℕ
lost_files_html view two us = if length us == 0 then [] else some_files_html view two us

-- ---- all of it

-- the command that writes what is whole of these beside the files
unfoldable pub lost_command : GivenWords → Profile → ℕ → List ℕ
lost_command g rules last = markup (codes "udfsalvage extract") ++ disc_words g rules last ++ markup (codes " --lost lost --to files") ++ inputs_end g

-- what is said before them
unfoldable pub lost_front : GivenWords → Profile → ℕ → List ℕ
lost_front g rules last =
    markup (codes "<h2>Lost folders and files</h2>\n<p>No name that was read leads to these, so each is called by its block; what is inside a folder keeps its name. Some may be left over from what was deleted, and be old. This writes what is whole of them as well:</p>\n")
    ++ commands_html (lost_command g rules last)
    ++ markup (codes "<p>The command <code>list --lost</code> also shows names that were found behind an unread block of a folder: evidence, not proof.</p>\n")

-- the trees, and the lost files among entries that they do not name
abbrev pub lost_in : View → Bool → List NodeFields → List Unnamed → List LostTree → List ℕ
lost_in view two nodes entries trees = flat_map (lost_tree_html view two nodes) trees ++ lost_files_html view two (lost_files view false trees entries)

-- what is lost, where it was looked for
unfoldable pub lost_from : Option Searched → List NodeFields → List LostTree → List ℕ
lost_from None nodes trees = []
lost_from (Some s) nodes trees = lost_in s.view s.two nodes s.entries trees

-- no folder and no file is lost, or there are too many to follow
abbrev pub none_lost : LostTally → Bool
none_lost t = t.folders == 0 && t.files == 0

-- nothing where there is none
abbrev pub lost_html : GivenWords → Profile → ℕ → Option Searched → List NodeFields → Verdict → List ℕ
lost_html g rules last place nodes a = if none_lost a.lost then [] else lost_front g rules last ++ lost_from place nodes a.found.trees.items
