use Rattle.std.proofs.Common.{◌∙◌, false}
use Rattle.serde_json.proofs.Views.{view-Array}
use Rattle.udfs_salvage.specs.JsonNodes.{node_data}
use Rattle.udfs_salvage.proofs.JsonLists.{listed_all, listed_item}
use Rattle.udfs_salvage.proofs.json_nodes.nodes_value.Goals as goal

pub loop-node-preserved : goal.loop-node-preserved
loop-node-preserved c =
    listed_item (node_data false) c.args.nodes.now c.loop-node.node-index c.node-item.result c.loop-node.items.items c.push.new.self.items c.in_ok-node_value.field-0 c.loop-node-test.true c.loop-node.invariant
    c.node-item.is c.in_ok-node_value.ensures c.in_ok-push.ensures.items

pub returns : goal.returns
returns c = view-Array c.loop-node.items ∙ listed_all (node_data false) c.args.nodes.now c.loop-node.node-index c.loop-node.items.items c.loop-node-test.false c.loop-node.invariant
