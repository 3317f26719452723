use Rattle.udfs_page.proofs.Texts.{four}
use Rattle.udfs_page.proofs.heads.push_style.Goals as goal

pub returns : goal.returns
returns c =
    four c.push_style_tree.result _ _ _ _ _ _ _ _ _ c.in_ok-push_style_base.ensures c.in_ok-push_style_text.ensures c.in_ok-push_style_picture.ensures c.push_style_tree.ensures
