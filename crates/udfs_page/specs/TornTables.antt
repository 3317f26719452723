-- The torn files of which most is lost.
--     torn_html count rows      a table of these rows of `count` torn files
use Rattle.std.specs.Prelude.{ℕ, ◌-◌, ◌==◌, nat_le, List, [], ◌∷◌, ◌++◌, codes, flat_map, length, if◌then◌else◌}
use Rattle.udfs_overview.specs.Figures.{grouped, percent_text, size_text}
use Rattle.udfs_overview.specs.TornRows.{Row}
use Rattle.udfs_page.specs.Markups.{markup, shown_name}

-- how much of a file is lost; of one that is disputed, or without bytes, there is no percentage
abbrev pub lost_part : Row → List ℕ
lost_part r = if r.disputed then markup (codes "disputed") else if r.size == 0 then markup (codes "-") else percent_text r.lost r.size

-- the end of the row of a file
abbrev pub last_cell : Row → List ℕ
last_cell r = size_text r.size ++ markup (codes "\n")

-- the row of a file: its path, how much of it is lost, and how many of how many bytes
unfoldable pub row_html : Row → List ℕ
row_html r =
    markup (codes "<tr><td>") ++ shown_name r.path
    ++ markup (codes "<td>") ++ lost_part r
    ++ markup (codes "<td>") ++ size_text r.lost
    ++ markup (codes "<td>") ++ last_cell r

-- that n files are not shown
abbrev pub more_line : ℕ → List ℕ
more_line n = markup (codes "<p>And ") ++ grouped n ++ markup (codes " more, each in the list of all files.</p>\n")

-- how many of `count` files are not shown, where `shown` are; nothing where all are
abbrev pub more_html : ℕ → ℕ → List ℕ
more_html count shown = if nat_le count shown then [] else more_line (count - shown)

-- the table
abbrev pub table_html : List Row → List ℕ
table_html rows =
    markup (codes "<h2>Torn files, most lost first</h2>\n<table>\n<tr><th>File<th>Lost<th>Bytes<th>Of\n") ++ flat_map row_html rows ++ markup (codes "</table>\n")

-- the table, and how many more there are
abbrev pub some_html : ℕ → List Row → List ℕ
some_html count rows = table_html rows ++ more_html count (length rows)

-- no table where nothing is torn
abbrev pub torn_html : ℕ → List Row → List ℕ
torn_html count [] = []
torn_html count (r ∷ rs) = some_html count (r ∷ rs)
