use Rattle.udfs_page.proofs.Texts.{four}
use Rattle.udfs_page.proofs.insides.push_some.Goals as goal

pub returns : goal.returns
returns c =
    four c.push_markup.result _ _ _ _ _ _ _ _ _ c.in_ok-push_whole.ensures c.in_ok-push_other.ensures c.in_ok-push_other-2.ensures c.push_markup.ensures
