-- The disc as a picture, and what its marks mean.
--     picture_html marks blocks       the picture of a disc with `blocks` blocks
use Rattle.std.specs.Prelude.{ℕ, List, ◌++◌, codes}
use Rattle.udfs_page.specs.Markups.{markup}
use Rattle.udfs_page.specs.Spirals.{spiral_text}
use Rattle.udfs_page.specs.declared.disc_arcs.Mark.{Mark}

-- what comes before the arcs; lengths are in hundredths of a millimetre
abbrev pub picture_front : List ℕ
picture_front =
    markup (codes "<h2>The disc</h2>\n<figure>\n")
    ++ markup (codes "<svg viewBox='-5950 -5950 11900 11900' role=img aria-label='The blocks of the disc in a spiral, the first ones inside'>\n")

-- a mark, and what it means
abbrev pub legend_text : List ℕ
legend_text =
    markup (codes "<figcaption>The blocks of the disc, from the first ones inside to the last ones outside. The angle means nothing: a scratch across the disc does not show as a line. Each stretch shows the worst of its blocks:\n<ul>\n")
    ++ markup (codes "<li><svg viewBox='0 0 300 132'><path class=k d='M0 66h300'/></svg>known</li>\n")
    ++ markup (codes "<li><svg viewBox='0 0 300 132'><path class=n d='M0 66h300'/></svg>not known, and not needed</li>\n")
    ++ markup (codes "<li><svg viewBox='0 0 300 132'><path class=m d='M0 66h300'/></svg>needed: read it again</li>\n")
    ++ markup (codes "<li><svg viewBox='0 0 300 132'><path class=c d='M0 66h300'/></svg>in conflict: readings differ</li>\n")
    ++ markup (codes "</ul></figcaption>\n")

-- the picture, and what its marks mean
abbrev pub picture_html : List Mark → ℕ → List ℕ
picture_html marks blocks = picture_front ++ spiral_text marks blocks ++ markup (codes "</svg>\n") ++ legend_text ++ markup (codes "</figure>\n")
