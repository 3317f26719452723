use Rattle.udfs_page.proofs.Texts.{five}
use Rattle.udfs_page.proofs.pictures.push_picture.Goals as goal

pub returns : goal.returns
returns c =
    five c.push_markup-2.result _ _ _ _ _ _ _ _ _ _ _ c.in_ok-push_picture_front.ensures c.in_ok-push_spiral.ensures c.in_ok-push_markup.ensures c.in_ok-push_legend.ensures c.push_markup-2.ensures
