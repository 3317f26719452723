-- The entries that were not read, by name.
--     unread_html paths      a list of these paths, and how many more there are
use Rattle.std.specs.Prelude.{ℕ, ◌==◌, List, [], ◌++◌, codes, flat_map, length, take, if◌then◌else◌}
use Rattle.udfs_overview.specs.TornLists.{shown_path, shown_rows}
use Rattle.udfs_page.specs.Markups.{markup, shown_name}
use Rattle.udfs_page.specs.TornTables.{more_html}

-- one of them
unfoldable pub unread_item : List (List ℕ) → List ℕ
unread_item path = markup (codes "<li>") ++ shown_name (shown_path path) ++ markup (codes "\n")

-- those that are shown
unfoldable pub unread_items : List (List (List ℕ)) → List ℕ
unread_items paths =
    markup (codes "<h2>Not yet looked at</h2>\n<p>Each is a file or a whole folder, of unknown size.</p>\n<ul>\n") ++ flat_map unread_item (take shown_rows paths) ++ markup (codes "</ul>\n")

-- the list, if there are any
unfoldable pub unread_html : List (List (List ℕ)) → List ℕ
unread_html paths = if length paths == 0 then [] else unread_items paths ++ more_html (length paths) shown_rows
