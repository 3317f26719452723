use Rattle.std.proofs.Common.{◌≡◌, map, take}
use Rattle.serde_json.specs.View.{view}
use Rattle.udfs_salvage.specs.JsonNodes.{hole_data}
use Rattle.udfs_salvage.proofs.json_nodes.holes_value.Given as goal

-- the runs so far
abbrev pub invariant-loop-hole : goal.invariant-loop-hole
invariant-loop-hole l = map view l.items.items ≡ map hole_data (take l.hole-index l.holes)
