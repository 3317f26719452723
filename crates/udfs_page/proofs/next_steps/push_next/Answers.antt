use Rattle.udfs_page.specs.NextSteps.{next_html}
use Rattle.udfs_page.proofs.Texts.{two}
use Rattle.udfs_page.proofs.next_steps.push_next.Goals as goal

pub returns : goal.returns
unfolding next_html
returns g c = two c.push_advice.result _ _ _ _ _ c.in_ok-push_markup.ensures c.push_advice.ensures
