use Rattle.udfs_page.specs.LostSections.{lost_command}
use Rattle.udfs_page.proofs.Texts.{four}
use Rattle.udfs_page.proofs.lost_sections.push_lost_command.Goals as goal

pub returns : goal.returns
unfolding lost_command
returns c = four c.push_inputs_end.result _ _ _ _ _ _ _ _ _ c.in_ok-push_markup.ensures c.in_ok-push_disc_words.ensures c.in_ok-push_markup-2.ensures c.push_inputs_end.ensures
