-- What is counted of lost folders and lost files, and of deleted entries.
--     lost_tally view entries trees       the figures of these lost trees, and of the lost files that they do not name
--     unfollowed view entries             the same where there are too many folders and files to follow
--     IsTallied view entries trees tally  these are the trees and the figures of what is lost among entries that no name leads to
--     IsTallyBy searched trees tally      the same where it is looked for
use Rattle.std.specs.Prelude.{◌≡◌, ◌⊎◌, ◌==◌, ◌&&◌, ◌||◌, Bool, true, false, not, List, [], count_by, flat_map, length, Option, Some, None}
use Rattle.udfs_space.specs.Places.{View}
use Rattle.udfs_walk.specs.NodeFields.{NodeFields}
use Rattle.udfs_walk.specs.declared.answers.NodesError.TheVariants.{TooManyPaths}
use Rattle.udfs_walk.specs.declared.answers.Unnamed.{Unnamed}
use Rattle.udfs_lost.specs.Folders.{icb_of_entry, lost_folders}
use Rattle.udfs_lost.specs.Links.{links_at}
use Rattle.udfs_lost.specs.LostFiles.{lost_files}
use Rattle.udfs_lost.specs.declared.trees.LostTree.{LostTree}
use Rattle.udfs_salvage.specs.UnnamedExtraction.{is_file}
use Rattle.udfs_overview.specs.DiscTallies.{has_data}
use Rattle.udfs_overview.specs.LostTrees.{AreLost, IsUnfound}
use Rattle.udfs_overview.specs.Searched.{Searched}
use Rattle.udfs_overview.specs.Tallies.{bytes_of, count_of, is_folder, is_loop}
use Rattle.udfs_overview.specs.declared.lost_tallies.LostTally.{LostTally}
use Rattle.udfs_overview.specs.declared.tallies.NodeSort.TheVariants as sort

-- all nodes of lost trees
abbrev pub tree_nodes : List LostTree → List NodeFields
tree_nodes trees = flat_map (λ t. t.nodes.items) trees

-- a node is a folder; one on its own path is a folder that is counted already
abbrev pub is_lost_directory : NodeFields → Bool
is_lost_directory n = is_folder n.kind && not (is_loop n.standing)

-- an entry is a file or a directory that was deleted: its link count is 0 (ECMA-167 4/14.9.6); other kinds may have none
abbrev pub is_deleted : View → Unnamed → Bool
is_deleted view u = (is_file u.kind || is_folder u.kind) && links_at view (icb_of_entry u) == 0

-- the figures of lost trees, the lost folders at their roots among their folders, and of the lost files that no such tree names
unfoldable pub lost_tally : View → List Unnamed → List LostTree → LostTally
lost_tally view entries trees = record {
  too_many = false;
  folders = count_by is_lost_directory (tree_nodes trees);
  whole_files = count_of sort.WholeFile (tree_nodes trees);
  whole_bytes = bytes_of sort.WholeFile (tree_nodes trees);
  torn_files = count_of sort.TornFile (tree_nodes trees);
  files = length (lost_files view false trees entries);
  with_data = count_by has_data (lost_files view false trees entries);
  deleted = count_by (is_deleted view) entries;
}

-- where there are too many folders and files to follow, the deleted entries alone are counted
unfoldable pub unfollowed : View → List Unnamed → LostTally
unfollowed view entries = record { too_many = true; folders = 0; whole_files = 0; whole_bytes = 0; torn_files = 0; files = 0; with_data = 0; deleted = count_by (is_deleted view) entries }

-- nothing is lost, and nothing was deleted
unfoldable pub no_tally : LostTally
no_tally = record { too_many = false; folders = 0; whole_files = 0; whole_bytes = 0; torn_files = 0; files = 0; with_data = 0; deleted = 0 }

-- these are the lost trees among entries, and their figures
pub record HasTrees (view : View) (entries : List Unnamed) (trees : List LostTree) (tally : LostTally) : Type 0 where
  pub are_lost : AreLost view false entries trees
  pub is : tally ≡ lost_tally view entries trees

-- or they have more than 65,536 nodes, or lead to a directory that lists more; then none are told
pub record IsUntold (view : View) (entries : List Unnamed) (trees : List LostTree) (tally : LostTally) : Type 0 where
  pub unfound : IsUnfound view (lost_folders view false entries) TooManyPaths
  pub none : trees ≡ []
  pub is : tally ≡ unfollowed view entries

-- either
abbrev pub IsTallied : View → List Unnamed → List LostTree → LostTally → Type 0
IsTallied view entries trees tally = HasTrees view entries trees tally ⊎ IsUntold view entries trees tally

-- where it is looked for; and else nothing is lost
abbrev pub IsTallyBy : Option Searched → List LostTree → LostTally → Type 0
IsTallyBy None trees tally = (trees ≡ []) × (tally ≡ no_tally)
IsTallyBy (Some s) trees tally = IsTallied s.view s.entries trees tally
