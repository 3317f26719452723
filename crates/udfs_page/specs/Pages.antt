-- The page of a report.
--     page_html words called rules table last report answer     all of it, where this answers whether the volume is lawful, and what is lost of it
use Rattle.std.specs.Prelude.{ℕ, ◌+◌, List, [], ◌++◌, codes, length}
use Rattle.udfs_lattice.specs.Tables.{Table, state_of}
use Rattle.udfs_lattice.specs.Volumes.{Blocks}
use Rattle.udfs_volume.specs.Answers.{Answer, found, holes, faulty}
use Rattle.udfs_space.specs.Places.{view}
use Rattle.udfs_walk.specs.NodeFields.{NodeFields}
use Rattle.udfs_salvage.specs.Found.{Found}
use Rattle.udfs_salvage.specs.Reports.{Report}
use Rattle.udfs_volume.specs.declared.profiles.Profile.{Profile}
use Rattle.udfs_overview.specs.Repeating.{GivenWords, inputs_words}
use Rattle.udfs_overview.specs.Searched.{looked_in}
use Rattle.udfs_overview.specs.SummaryFigures.{figures_of}
use Rattle.udfs_overview.specs.TornLists.{first_rows, torn_rows}
use Rattle.udfs_overview.specs.TornRows.{Row}
use Rattle.udfs_overview.specs.UnreadLists.{unread_paths}
use Rattle.udfs_overview.specs.declared.summary_figures.Figures.{Figures}
use Rattle.udfs_overview.specs.declared.verdicts.Verdict.{Verdict}
use Rattle.udfs_page.specs.Arcs.{arcs_of}
use Rattle.udfs_page.specs.Heads.{head_text}
use Rattle.udfs_page.specs.LostSections.{lost_html}
use Rattle.udfs_page.specs.Markups.{markup, shown_name}
use Rattle.udfs_page.specs.Naming.{CalledWords}
use Rattle.udfs_page.specs.NextSteps.{next_html}
use Rattle.udfs_page.specs.Overviews.{overview_html, title_html}
use Rattle.udfs_page.specs.Pictures.{picture_html}
use Rattle.udfs_page.specs.TornTables.{torn_html}
use Rattle.udfs_page.specs.Trees.{tree_html}
use Rattle.udfs_page.specs.UnreadTables.{unread_html}
use Rattle.udfs_page.specs.declared.disc_arcs.Mark.{Mark}

-- what was not read, and what is torn: so many files, of which these rows are shown
abbrev pub lacking_html : List NodeFields → List Row → ℕ → List ℕ
lacking_html nodes rows count = unread_html (unread_paths nodes) ++ torn_html count rows

-- the tree of the nodes of a volume, if that opens
abbrev pub files_html : Blocks → Answer Found → Report → List ℕ
files_html blocks (found f) r = tree_html (view blocks f.space) r.nodes
files_html blocks (holes unread) r = []
files_html blocks (faulty f) r = []

-- what was read: the inputs, as they were given
abbrev pub inputs_html : GivenWords → List ℕ
inputs_html g = markup (codes "<p>Read from") ++ shown_name (inputs_words g) ++ markup (codes "</p>\n")

-- what the page says of the disc: what it is, what is known of it, what was read, the blocks as a picture with these arcs, and what to do next
abbrev pub disc_html : GivenWords → CalledWords → Figures → List Mark → Report → Verdict → List ℕ
disc_html g called f marks r answer = (overview_html f r answer ++ inputs_html g) ++ picture_html marks (f.last + 1) ++ next_html g called f r

-- all before the tree of the nodes
unfoldable pub front_html : GivenWords → CalledWords → Figures → List Mark → List Row → ℕ → Report → Verdict → List ℕ
front_html g called f marks rows count r answer = head_text called.title (title_html r.volume) ++ disc_html g called f marks r answer ++ lacking_html r.nodes rows count

-- all of it, of a report by the rules of a profile, where these arguments were given and the page is called so: what is lost stands behind the tree, or in its place
unfoldable pub page_html : GivenWords → CalledWords → Profile → Table → ℕ → Report → Verdict → List ℕ
page_html g called rules table last r answer =
    let blocks = state_of table in
    let rows = torn_rows blocks r.nodes in
    front_html g called (figures_of rules table last r) (arcs_of blocks r.reread last) (first_rows rows) (length rows) r answer
    ++ files_html blocks r.volume r ++ lost_html g rules last (looked_in blocks r answer.found) r.nodes answer ++ markup (codes "</body>\n</html>\n")
