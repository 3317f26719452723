-- The entries that were not read, by name: each is a file or a whole folder.
--     unread_paths nodes     their paths, in the order of the nodes
--     unread_text paths      their lines: the first twenty, and how many more there are
use Rattle.std.specs.Prelude.{ℕ, ◌-◌, ◌==◌, List, [], ◌++◌, Option, Some, None, codes, cond, filter_map, flat_map, length, take, if◌then◌else◌}
use Rattle.udfs_walk.specs.NodeFields.{NodeFields}
use Rattle.udfs_overview.specs.Narrow.{narrow}
use Rattle.udfs_overview.specs.Sentences.{by_number, counted}
use Rattle.udfs_overview.specs.Tallies.{is_node_of}
use Rattle.udfs_overview.specs.TornLists.{more_line, shown_path, shown_rows}
use Rattle.udfs_overview.specs.declared.tallies.NodeSort.TheVariants as sort

-- the path of a node that was not read
abbrev pub unread_path : NodeFields → Option (List (List ℕ))
unread_path n = cond (is_node_of sort.Unread n) (Some n.path) None

-- the paths of those that were not read
unfoldable pub unread_paths : List NodeFields → List (List (List ℕ))
unread_paths nodes = filter_map unread_path nodes

-- how many there are
unfoldable pub unread_head : ℕ → List ℕ
unread_head n = codes "Unread     " ++ counted n (by_number n (codes " entry, a file or a whole folder of unknown size:\n") (codes " entries, each a file or a whole folder of unknown size:\n"))

-- the line of one, in 80 columns
unfoldable pub path_line : List (List ℕ) → List ℕ
path_line path = codes "           " ++ narrow 33 (shown_path path) ++ codes "\n"

-- the lines of those that are shown, and how many more there are
unfoldable pub unread_rows : List (List (List ℕ)) → List ℕ
unread_rows paths = flat_map path_line (take shown_rows paths) ++ more_line (length paths - shown_rows)

-- their lines, if there are any
unfoldable pub unread_text : List (List (List ℕ)) → List ℕ
unread_text paths = if length paths == 0 then [] else unread_head (length paths) ++ unread_rows paths
