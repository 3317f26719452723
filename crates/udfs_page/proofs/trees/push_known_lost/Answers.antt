use Rattle.udfs_page.proofs.Texts.{four}
use Rattle.udfs_page.proofs.trees.push_known_lost.Goals as goal

pub returns : goal.returns
returns c =
    four c.push_ranges.result _ _ _ _ _ _ _ _ _ c.in_ok-push_markup.ensures c.in_ok-push_size.ensures c.in_ok-push_markup-2.ensures c.push_ranges.ensures
