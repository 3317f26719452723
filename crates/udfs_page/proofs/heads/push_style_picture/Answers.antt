use Rattle.udfs_page.proofs.Texts.{four}
use Rattle.udfs_page.proofs.heads.push_style_picture.Goals as goal

pub returns : goal.returns
returns c =
    four c.push_markup-4.result _ _ _ _ _ _ _ _ _ c.in_ok-push_markup.ensures c.in_ok-push_markup-2.ensures c.in_ok-push_markup-3.ensures c.push_markup-4.ensures
