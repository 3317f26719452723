-- The first bytes of a page.
use Rattle.std.proofs.Common.{◌≡◌, ◌∙◌, refl, ap, ℕ, List, ◌++◌, append_assoc}
use Rattle.std.specs.Prelude.{codes}
use Rattle.std.specs.Prelude.{length}
use Rattle.udfs_lattice.specs.Tables.{Table, state_of}
use Rattle.udfs_volume.specs.declared.profiles.Profile.{Profile}
use Rattle.udfs_salvage.specs.Reports.{Report}
use Rattle.udfs_overview.specs.declared.verdicts.Verdict.{Verdict}
use Rattle.udfs_overview.specs.Repeating.{GivenWords}
use Rattle.udfs_overview.specs.Searched.{looked_in}
use Rattle.udfs_overview.specs.SummaryFigures.{figures_of}
use Rattle.udfs_overview.specs.TornLists.{first_rows, torn_rows}
use Rattle.udfs_page.specs.Arcs.{arcs_of}
use Rattle.udfs_page.specs.Heads.{before_title, head_back, head_text, heading_html, page_mark, titled_html}
use Rattle.udfs_page.specs.LostSections.{lost_html}
use Rattle.udfs_page.specs.Markups.{markup}
use Rattle.udfs_page.specs.Naming.{CalledWords}
use Rattle.udfs_page.specs.Overviews.{title_html}
use Rattle.udfs_page.specs.Pages.{disc_html, files_html, front_html, lacking_html, page_html}

-- a front of some text is a front of that text and more
and_more : (whole a rest more : List ℕ) → whole ≡ a ++ rest → whole ++ more ≡ a ++ (rest ++ more)
and_more whole a rest more e = ap (λ t. t ++ more) e ∙ append_assoc a rest more

-- the page's own text stands as it is
as_it_is : (words : List ℕ) → markup words ≡ words
unfolding markup
as_it_is words = refl

begins_marked : (g : GivenWords) (called : CalledWords) (rules : Profile) (table : Table) (last : ℕ) (report : Report) (answer : Verdict) → (rest : List ℕ) × (page_html g called rules table last report answer ≡ markup page_mark ++ rest)
unfolding page_html front_html head_text
begins_marked g called rules table last report answer = let rows = torn_rows (state_of table) report.nodes in (
  _,
  and_more _ (markup page_mark) _ (markup (codes "</body>\n</html>\n"))
      (and_more _ (markup page_mark) _ (lost_html g rules last (looked_in (state_of table) report answer.found) report.nodes answer)
      (and_more _ (markup page_mark) _ (files_html (state_of table) report.volume report)
      (and_more _ (markup page_mark) _ (lacking_html report.nodes (first_rows rows) (length rows))
      (and_more _ (markup page_mark) _ (disc_html g called (figures_of rules table last report) (arcs_of (state_of table) report.reread last) report answer)
      (and_more _ (markup page_mark) _ (heading_html called.title)
      (and_more _ (markup page_mark) _ head_back
      (and_more _ (markup page_mark) _ (title_html report.volume)
      (and_more (markup page_mark ++ markup before_title) (markup page_mark) (markup before_title) (titled_html called.title) refl)))))))),
)

pub begins_so : (g : GivenWords) (called : CalledWords) (rules : Profile) (table : Table) (last : ℕ) (report : Report) (answer : Verdict) → (rest : List ℕ) × (page_html g called rules table last report answer ≡ page_mark ++ rest)
begins_so g called rules table last report answer =
    let b = begins_marked g called rules table last report answer in
    (b.0, b.1 ∙ ap (λ mark. mark ++ b.0) (as_it_is page_mark))
