use Rattle.std.proofs.Common.{refl}
use Rattle.serde_json.proofs.Views.{view-Object}
use Rattle.udfs_salvage.specs.JsonReports.{reread_data}
use Rattle.udfs_salvage.proofs.json_reports.reread_value.Goals as goal

pub returns-clause-value : goal.returns-clause-value
unfolding reread_data
returns-clause-value g c told = rw (view-Object c.put-2.new.map, c.in_ok-put-2.ensures.ok, c.in_ok-put.ensures.ok, c.new-members.ensures.empty, c.in_ok-state.ensures, c.from.ensures, c.state_name.ensures told) refl
