use Rattle.udfs_page.proofs.Texts.{two}
use Rattle.udfs_page.proofs.pictures.push_picture_front.Goals as goal

pub returns : goal.returns
returns c =
    two c.push_markup-2.result _ _ _ _ _ c.in_ok-push_markup.ensures c.push_markup-2.ensures
