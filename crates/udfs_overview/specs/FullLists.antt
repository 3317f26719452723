-- The whole list with what is lost: the lines of the nodes, of lost trees and lost files, and of names that are found behind holes.
--     lost_text form deleted searched nodes trees    the lines of what is lost, of a volume that has these nodes
--     full_list form deleted blocks searched report trees    the lines of a report's nodes, and these
use Rattle.std.specs.Prelude.{ℕ, Bool, List, [], ◌++◌, Option, Some, None}
use Rattle.udfs_lattice.specs.Volumes.{Blocks}
use Rattle.udfs_space.specs.Places.{View}
use Rattle.udfs_walk.specs.NodeFields.{NodeFields}
use Rattle.udfs_walk.specs.declared.answers.Unnamed.{Unnamed}
use Rattle.udfs_lost.specs.declared.trees.LostTree.{LostTree}
use Rattle.udfs_salvage.specs.Reports.{Report}
use Rattle.udfs_overview.specs.FoundLists.{found_lines, named}
use Rattle.udfs_overview.specs.LostLists.{lost_lines}
use Rattle.udfs_overview.specs.NodeLists.{list_text}
use Rattle.udfs_overview.specs.Searched.{Searched}
use Rattle.udfs_overview.specs.declared.node_list.ListForm.{ListForm}

-- the lines of what is lost in a view, and of names that are found behind holes: each entry by the names that are found of it, or else by its block
abbrev pub lost_and_found : ListForm → Bool → View → Bool → List NodeFields → List Unnamed → List LostTree → List ℕ
lost_and_found form deleted view two nodes entries trees =
    lost_lines form deleted view two (named form deleted view nodes entries trees) nodes entries trees ++ found_lines form deleted view two nodes entries trees

-- all lines where what is lost is looked for, of a volume that has these nodes; and else none
unfoldable pub lost_text : ListForm → Bool → Option Searched → List NodeFields → List LostTree → List ℕ
lost_text form deleted None nodes trees = []
lost_text form deleted (Some s) nodes trees = lost_and_found form deleted s.view s.two nodes s.entries trees

-- the lines of a report's nodes, and of what is lost
abbrev pub full_list : ListForm → Bool → Blocks → Option Searched → Report → List LostTree → List ℕ
full_list form deleted blocks searched report trees = list_text form blocks report ++ lost_text form deleted searched report.nodes trees
