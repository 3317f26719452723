use Rattle.udfs_page.proofs.Texts.{five}
use Rattle.udfs_page.proofs.insides.push_whole.Goals as goal

pub returns : goal.returns
returns c =
    five c.push_markup-3.result _ _ _ _ _ _ _ _ _ _ _ c.in_ok-push_markup.ensures c.in_ok-push_grouped.ensures c.in_ok-push_markup-2.ensures c.in_ok-push_grouped-2.ensures c.push_markup-3.ensures
