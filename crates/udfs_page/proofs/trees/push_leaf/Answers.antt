use Rattle.udfs_page.proofs.Texts.{five}
use Rattle.udfs_page.proofs.trees.push_leaf.Goals as goal

pub returns : goal.returns
returns c =
    five c.push_closings.result _ _ _ _ _ _ _ _ _ _ _ c.in_ok-push_leaf_front.ensures c.in_ok-push_told.ensures c.in_ok-push_node_date.ensures c.in_ok-push_markup.ensures c.push_closings.ensures
