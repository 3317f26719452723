use Rattle.std.proofs.Common.{refl}
use Rattle.serde_json.proofs.Views.{view-Object}
use Rattle.udfs_salvage.proofs.json_reports.state_value.Goals as goal

pub returns : goal.returns
returns c = rw (view-Object c.put.new.map, c.in_ok-put.ensures.ok, c.new-members.ensures.empty, c.in_ok-state.ensures) refl
