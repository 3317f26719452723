use Rattle.udfs_page.proofs.Texts.{six}
use Rattle.udfs_page.proofs.pictures.push_legend.Goals as goal

pub returns : goal.returns
returns c =
    six c.push_markup-6.result _ _ _ _ _ _ _ _ _ _ _ _ _ c.in_ok-push_markup.ensures c.in_ok-push_markup-2.ensures c.in_ok-push_markup-3.ensures c.in_ok-push_markup-4.ensures c.in_ok-push_markup-5.ensures c.push_markup-6.ensures
