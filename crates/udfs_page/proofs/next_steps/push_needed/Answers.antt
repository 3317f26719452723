use Rattle.udfs_page.specs.NextSteps.{needed_html}
use Rattle.udfs_page.proofs.Texts.{four}
use Rattle.udfs_page.proofs.next_steps.push_needed.Goals as goal

pub returns : goal.returns
unfolding needed_html
returns c =
    four c.push_renewed_box.result _ _ _ _ _ _ _ _ _ c.in_ok-push_needed_words.ensures c.in_ok-push_needed_commands.ensures c.in_ok-push_markup.ensures c.push_renewed_box.ensures
