-- The page of what is counted of a store of blocks is that of a table with the same states.
use Rattle.std.proofs.Common.{◌≡◌, ◌∙◌, sym, ap, ℕ, List, ◌++◌}
use Rattle.std.specs.Prelude.{codes}
use Rattle.udfs_lattice.specs.Tables.{Table, state_of}
use Rattle.udfs_lattice.specs.Volumes.{Blocks}
use Rattle.udfs_volume.specs.declared.profiles.Profile.{Profile}
use Rattle.udfs_salvage.specs.Reports.{Report}
use Rattle.udfs_overview.specs.declared.verdicts.Verdict.{Verdict}
use Rattle.udfs_overview.specs.Repeating.{GivenWords}
use Rattle.udfs_overview.specs.Searched.{looked_in}
use Rattle.udfs_overview.specs.SummaryFigures.{IsCounted}
use Rattle.udfs_overview.specs.TornRows.{Row}
use Rattle.udfs_overview.specs.declared.summary_figures.Figures.{Figures}
use Rattle.udfs_page.specs.Arcs.{arcs_of}
use Rattle.udfs_page.specs.LostSections.{lost_html}
use Rattle.udfs_page.specs.Markups.{markup}
use Rattle.udfs_page.specs.Naming.{CalledWords}
use Rattle.udfs_page.specs.Pages.{files_html, front_html, page_html}
use Rattle.udfs_page.specs.declared.disc_arcs.Mark.{Mark}

-- what is lost, where it was looked for in blocks of these states
abbrev pub lost_of : GivenWords → Profile → Blocks → ℕ → Report → Verdict → List ℕ
lost_of g rules M last r answer = lost_html g rules last (looked_in M r answer.found) r.nodes answer

pub page_of_counts : (g : GivenWords) (called : CalledWords) (rules : Profile) (M : Blocks) (t : Table) (last : ℕ) (r : Report) (answer : Verdict) (f : Figures) (marks : List Mark) (rows : List Row) (count : ℕ)
    → M ≡ state_of t → IsCounted rules t last r f rows count → marks ≡ arcs_of M r.reread last
    → front_html g called f marks rows count r answer ++ files_html M r.volume r ++ lost_of g rules M last r answer ++ markup (codes "</body>\n</html>\n") ≡ page_html g called rules t last r answer
unfolding page_html
page_of_counts g called rules M t last r answer f marks rows count same counted drawn =
    λ i. front_html g called (counted.figures_are i) ((drawn ∙ ap (λ (bs : Blocks). arcs_of bs r.reread last) same) i) (counted.torn_are.first i) (counted.torn_are.many i) r answer
    ++ files_html (same i) r.volume r ++ lost_of g rules (same i) last r answer ++ markup (codes "</body>\n</html>\n")
