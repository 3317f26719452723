use Rattle.udfs_page.proofs.Texts.{two}
use Rattle.udfs_page.proofs.torn_tables.push_some.Goals as goal

pub returns : goal.returns
returns c =
    two c.push_more.result _ _ _ _ _ c.in_ok-push_table.ensures c.push_more.ensures
