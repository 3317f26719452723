use Rattle.udfs_overview.proofs.Headed.{pushed_first_by}
use Rattle.udfs_overview.proofs.node_list.put_parts.Goals as goal

pub returns-clause-printed : goal.returns-clause-printed
returns-clause-printed g c told = pushed_first_by _ _ _ _ _ _ _ c.put_lines.result c.in_ok-push_header.ensures (c.put_lines.ensures.printed told)
