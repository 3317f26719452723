use Rattle.udfs_page.proofs.Texts.{three}
use Rattle.udfs_page.proofs.torn_tables.push_more_line.Goals as goal

pub returns : goal.returns
returns c =
    three c.push_markup-2.result _ _ _ _ _ _ _ c.in_ok-push_markup.ensures c.in_ok-push_grouped.ensures c.push_markup-2.ensures
