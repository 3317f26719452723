-- Lost files: those that no lost tree names.
--     is_named_in view trees icb                   a node of the trees names this information control block
--     is_lost_file view deleted trees u            an entry without a name is a lost file
--     lost_files view deleted trees entries        those among entries
--     BareEntriesWillDo                            entries need not have their blocks and holes
use Rattle.std.specs.Prelude.{◌≡◌, ◌&&◌, Bool, true, false, not, List, map, filter}
use Rattle.std.specs.List.{list_any}
use Rattle.udfs_space.specs.Places.{View}
use Rattle.udfs_file.specs.declared.faults.Kind.{Kind}
use Rattle.udfs_file.specs.declared.faults.Kind.TheVariants.{File}
use Rattle.udfs_walk.specs.Targets.{Icb}
use Rattle.udfs_walk.specs.UnnamedEntries.{names}
use Rattle.udfs_walk.specs.declared.answers.Unnamed.{Unnamed}
use Rattle.udfs_walk.specs.Bare.{full_entry}
use Rattle.udfs_lost.specs.Folders.{icb_of_entry, is_taken, lost_folders}
use Rattle.udfs_lost.specs.declared.trees.LostTree.{LostTree}

-- the kind is that of a file
abbrev pub is_file : Kind → Bool
is_file File = true
is_file _ = false

-- the good address of a node of a tree leads there
abbrev pub is_named_in : View → List LostTree → Icb → Bool
is_named_in view trees icb = list_any (λ t. list_any (names view icb) t.nodes.items) trees

-- an entry without a name is a lost file: a file that is taken in, and that no lost tree names
abbrev pub is_lost_file : View → Bool → List LostTree → Unnamed → Bool
is_lost_file view deleted trees u = is_file u.kind && is_taken view deleted u && not (is_named_in view trees (icb_of_entry u))

-- the lost files among entries without a name
abbrev pub lost_files : View → Bool → List LostTree → List Unnamed → List Unnamed
lost_files view deleted trees entries = filter (is_lost_file view deleted trees) entries

-- Of entries without their blocks and holes the same ones are lost as of the entries with them.
pub record BareEntriesDo (view : View) (deleted : Bool) (trees : List LostTree) (entries : List Unnamed) : Type 0 where
  pub folders : lost_folders view deleted (map (full_entry view) entries) ≡ lost_folders view deleted entries
  pub files : lost_files view deleted trees (map (full_entry view) entries) ≡ map (full_entry view) (lost_files view deleted trees entries)

-- for all entries
abbrev pub BareEntriesWillDo : Type 0
BareEntriesWillDo = (view : View) (deleted : Bool) (trees : List LostTree) (entries : List Unnamed) → BareEntriesDo view deleted trees entries
