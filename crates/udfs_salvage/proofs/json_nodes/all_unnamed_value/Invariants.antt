use Rattle.std.proofs.Common.{◌≡◌, map, take}
use Rattle.serde_json.specs.View.{view}
use Rattle.udfs_salvage.specs.JsonNodes.{unnamed_data}
use Rattle.udfs_salvage.proofs.json_nodes.all_unnamed_value.Given as goal

-- those so far
abbrev pub invariant-loop-entry : goal.invariant-loop-entry
invariant-loop-entry l = map view l.items.items ≡ map (unnamed_data l.two) (take l.entry-index l.entries)
