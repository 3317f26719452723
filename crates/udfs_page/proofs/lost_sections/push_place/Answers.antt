use Rattle.udfs_page.proofs.Texts.{three}
use Rattle.udfs_page.proofs.lost_sections.push_place.Goals as goal

pub returns : goal.returns
returns c = three c.push_markup-2.result _ _ _ _ _ _ _ c.in_ok-push_markup.ensures c.in_ok-push_path.ensures c.push_markup-2.ensures
