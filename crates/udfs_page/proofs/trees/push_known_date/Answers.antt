use Rattle.udfs_page.proofs.Texts.{three}
use Rattle.udfs_page.proofs.trees.push_known_date.Goals as goal

pub returns : goal.returns
returns c =
    three c.push_markup-2.result _ _ _ _ _ _ _ c.in_ok-push_markup.ensures c.in_ok-push_stamp.ensures c.push_markup-2.ensures
