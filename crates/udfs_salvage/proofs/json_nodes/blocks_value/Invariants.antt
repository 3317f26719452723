use Rattle.std.proofs.Common.{◌≡◌, map, take}
use Rattle.serde_json.specs.View.{view}
use Rattle.udfs_salvage.specs.JsonNodes.{count}
use Rattle.udfs_salvage.proofs.json_nodes.blocks_value.Given as goal

-- the numbers so far
abbrev pub invariant-loop-block : goal.invariant-loop-block
invariant-loop-block l = map view l.items.items ≡ map count (take l.block-index l.blocks)
