use Rattle.udfs_page.specs.Spirals.{arc_text}
use Rattle.udfs_page.proofs.Texts.{four}
use Rattle.udfs_page.proofs.spiral.push_arc.Goals as goal

pub returns : goal.returns
unfolding arc_text
returns c =
    four c.push_blocks.result _ _ _ _ _ _ _ _ _ c.in_ok-push_markup.ensures c.in_ok-push_class.ensures c.in_ok-push_turned.ensures c.push_blocks.ensures
