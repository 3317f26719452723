use Rattle.udfs_page.specs.Overviews.{overview_html}
use Rattle.udfs_page.proofs.Texts.{seven}
use Rattle.udfs_page.proofs.overviews.push_overview.Goals as goal

pub returns : goal.returns
unfolding overview_html
returns g c =
    seven c.push_markup-2.result _ _ _ _ _ _ _ _ _ _ _ _ _ _ _ c.in_ok-push_markup.ensures c.in_ok-push_volume_and_lost.ensures c.in_ok-push_apart_lines.ensures c.in_ok-push_moved_lines.ensures c.in_ok-push_guarantee.ensures c.in_ok-push_disc_lines.ensures c.push_markup-2.ensures
