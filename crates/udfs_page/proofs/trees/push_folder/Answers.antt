use Rattle.udfs_page.proofs.Texts.{four}
use Rattle.udfs_page.proofs.trees.push_folder.Goals as goal

pub returns : goal.returns
returns c =
    four c.push_markup.result _ _ _ _ _ _ _ _ _ c.in_ok-push_node_front.ensures c.in_ok-push_told.ensures c.in_ok-push_inside.ensures c.push_markup.ensures
