use Rattle.udfs_overview.specs.Summaries.{summary_lines}
use Rattle.udfs_overview.proofs.Chains.{both_appended}
use Rattle.udfs_overview.proofs.SummaryObjects.{seven_behind}
use Rattle.udfs_overview.proofs.summary.push_summary.Goals as goal

pub returns : goal.returns
unfolding summary_lines
returns g c =
    seven_behind c.push_next.result _ _ _ _ _ _ _ _ _ _ _ _ _ _ _ (both_appended _ _ _ _ _ c.in_ok-push_volume.ensures c.in_ok-push_apart.ensures)
    c.in_ok-push_found_and_lost.ensures c.in_ok-push_wider.ensures c.in_ok-push_state.ensures c.in_ok-push_all_unread.ensures c.in_ok-push_top.ensures c.push_next.ensures
