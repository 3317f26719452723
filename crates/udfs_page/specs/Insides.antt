-- What is inside a folder, at any depth.
--     inside depth nodes        of the nodes behind a folder whose path has so many names, those that are inside it
--     inside_of nodes           what is counted of such nodes
--     inside_html inside        what the line of the folder says of them
use Rattle.std.specs.Prelude.{ℕ, ◌==◌, ◌&&◌, ◌||◌, Bool, not, nat_lt, List, [], ◌∷◌, ◌++◌, codes, count_by, length, if◌then◌else◌}
use Rattle.udfs_file.specs.declared.faults.Kind.{Kind}
use Rattle.udfs_walk.specs.NodeFields.{NodeFields}
use Rattle.udfs_walk.specs.Unsettled.{is_whole}
use Rattle.udfs_walk.specs.declared.standings.Standing.{Standing}
use Rattle.udfs_overview.specs.Figures.{grouped}
use Rattle.udfs_overview.specs.Tallies.{is_folder, is_torn, is_unread}
use Rattle.udfs_page.specs.Markups.{markup}
use Rattle.udfs_page.specs.declared.insides.Inside.{Inside}
use Rattle.udfs_page.specs.declared.insides.Part.{Part}
use Rattle.udfs_page.specs.declared.insides.Part.TheVariants as part

-- its path has more names than these
abbrev pub is_deeper : ℕ → NodeFields → Bool
is_deeper depth n = nat_lt depth (length n.path)

-- those whose paths are longer, up to the first whose path is not
abbrev pub inside : ℕ → List NodeFields → List NodeFields
inside depth [] = []
inside depth (n ∷ ns) = if is_deeper depth n then n ∷ inside depth ns else []

-- an entry is all but a folder; what is not yet known may be one, and counts as an entry
abbrev pub is_part : Part → Standing → Kind → Bool
is_part part.Entry s k = not (is_folder k)
is_part part.Whole s k = is_whole s && not (is_folder k)
is_part part.Torn s k = is_torn s && not (is_folder k || is_unread k)
is_part part.Unread s k = is_unread k
is_part part.Amiss s k = not (is_whole s)

-- how many nodes are of a part
abbrev pub count_part : Part → List NodeFields → ℕ
count_part p nodes = count_by (λ (n : NodeFields). is_part p n.standing n.kind) nodes

-- all that is counted
unfoldable pub inside_of : List NodeFields → Inside
inside_of nodes = record {
  entries = count_part part.Entry nodes;
  whole = count_part part.Whole nodes;
  torn = count_part part.Torn nodes;
  unread = count_part part.Unread nodes;
  amiss = count_part part.Amiss nodes;
}

-- how many entries are whole
abbrev pub whole_part : Inside → List ℕ
whole_part i = markup (codes "<small>") ++ grouped i.whole ++ markup (codes " of ") ++ grouped i.entries ++ markup (codes " whole")

-- how many are not, if any
abbrev pub other_part : ℕ → List ℕ → List ℕ
other_part n words = if n == 0 then [] else markup (codes ", ") ++ grouped n ++ markup words

-- of a folder with entries: how many are whole, torn and not yet known
abbrev pub some_inside : Inside → List ℕ
some_inside i = whole_part i ++ other_part i.torn (codes " torn") ++ other_part i.unread (codes " not yet known") ++ markup (codes "</small>")

-- nothing of a folder in which there is no entry at any depth
abbrev pub inside_html : Inside → List ℕ
inside_html i = if i.entries == 0 then [] else some_inside i
