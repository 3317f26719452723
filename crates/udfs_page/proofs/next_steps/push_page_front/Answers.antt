use Rattle.udfs_page.specs.NextSteps.{page_front}
use Rattle.udfs_page.proofs.Texts.{three}
use Rattle.udfs_page.proofs.next_steps.push_page_front.Goals as goal

pub returns : goal.returns
unfolding page_front
returns c = three c.push_title_words.result _ _ _ _ _ _ _ c.in_ok-push_markup.ensures c.in_ok-push_disc_words.ensures c.push_title_words.ensures
