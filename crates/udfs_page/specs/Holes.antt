-- The lost bytes of a node, and the ends of folders.
--     ranges_html holes        the runs of lost bytes, each by its first and its last one: the first fifty, and how many more there are
--     closings n               the ends of n folders
use Rattle.std.specs.Prelude.{ℕ, ◌+◌, ◌-◌, ◌==◌, List, [], ◌++◌, codes, flat_map, length, take, if◌then◌else◌}
use Rattle.std.specs.List.{range_with_len}
use Rattle.udfs_page.specs.Markups.{figure, markup}

-- how many runs of a node are shown
abbrev pub shown_ranges : ℕ
shown_ranges = 50

-- a run by its first and its last byte
unfoldable pub range_html : ℕ × ℕ → List ℕ
range_html hole = markup (codes " ") ++ figure hole.0 ++ markup (codes "&ndash;") ++ figure (hole.0 + hole.1 - 1)

-- how many are not shown
abbrev pub more_ranges : ℕ → List ℕ
more_ranges n = if n == 0 then [] else markup (codes " and ") ++ figure n ++ markup (codes " more")

-- the runs of a node
abbrev pub ranges_html : List (ℕ × ℕ) → List ℕ
ranges_html holes = flat_map range_html (take shown_ranges holes) ++ more_ranges (length holes - shown_ranges)

-- n folders end
unfoldable pub closings : ℕ → List ℕ
closings n = flat_map (λ (i : ℕ). markup (codes "</details>\n")) (range_with_len 0 n)
