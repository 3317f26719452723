use Rattle.udfs_page.specs.Heads.{heading_html}
use Rattle.udfs_page.proofs.Texts.{two}
use Rattle.udfs_page.proofs.heads.push_heading.Goals as goal

pub returns : goal.returns
unfolding heading_html
returns c = two c.push_markup.result _ _ _ _ _ c.in_ok-push_titled.ensures c.push_markup.ensures
