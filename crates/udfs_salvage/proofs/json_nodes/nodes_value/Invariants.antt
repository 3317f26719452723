use Rattle.std.proofs.Common.{◌≡◌, false, map, take}
use Rattle.serde_json.specs.View.{view}
use Rattle.udfs_salvage.specs.JsonNodes.{node_data}
use Rattle.udfs_salvage.proofs.json_nodes.nodes_value.Given as goal

-- those so far
abbrev pub invariant-loop-node : goal.invariant-loop-node
invariant-loop-node l = map view l.items.items ≡ map (node_data false) (take l.node-index l.nodes)
