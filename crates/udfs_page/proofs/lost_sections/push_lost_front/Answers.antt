use Rattle.udfs_page.specs.LostSections.{lost_front}
use Rattle.udfs_page.proofs.Texts.{three}
use Rattle.udfs_page.proofs.lost_sections.push_lost_front.Goals as goal

pub returns : goal.returns
unfolding lost_front
returns c = three c.push_markup-2.result _ _ _ _ _ _ _ c.in_ok-push_markup.ensures c.in_ok-push_lost_box.ensures c.push_markup-2.ensures
