use Rattle.udfs_overview.proofs.Chains.{four_appended}
use Rattle.udfs_overview.proofs.summary.push_all_found.Goals as goal

pub returns : goal.returns
returns g c = four_appended c.push_spares.result _ _ _ _ _ _ _ _ _ c.in_ok-push_found.ensures c.in_ok-push_streams.ensures c.in_ok-push_moved.ensures c.push_spares.ensures
