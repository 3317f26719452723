use Rattle.udfs_page.proofs.Texts.{five}
use Rattle.udfs_page.proofs.trees.push_note.Goals as goal

pub returns : goal.returns
returns c =
    five c.push_markup-2.result _ _ _ _ _ _ _ _ _ _ _ c.in_ok-push_markup.ensures c.in_ok-push_kind.ensures c.in_ok-push_tail.ensures c.in_ok-push_standing.ensures c.push_markup-2.ensures
