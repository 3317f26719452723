use Rattle.udfs_page.proofs.Texts.{five}
use Rattle.udfs_page.proofs.spiral.push_title.Goals as goal

pub returns : goal.returns
returns c =
    five c.push_title_end.result _ _ _ _ _ _ _ _ _ _ _ c.in_ok-push_markup.ensures c.in_ok-push_figure.ensures c.in_ok-push_markup-2.ensures c.in_ok-push_figure-2.ensures c.push_title_end.ensures
