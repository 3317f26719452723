use Rattle.std.proofs.Common.{◌≡◌, map, take}
use Rattle.serde_json.specs.View.{view}
use Rattle.udfs_lattice.specs.Tables.{state_of}
use Rattle.udfs_salvage.specs.JsonReports.{reread_data}
use Rattle.udfs_salvage.proofs.json_reports.rereads_value.Given as goal

-- the blocks so far
abbrev pub invariant-loop-block : goal.invariant-loop-block
invariant-loop-block l = map view l.items.items ≡ map (reread_data (state_of l.table)) (take l.block-index l.blocks)
