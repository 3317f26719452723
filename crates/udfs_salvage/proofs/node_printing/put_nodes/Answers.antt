use Rattle.udfs_salvage.proofs.Putting.{puts_no_node, puts_node}
use Rattle.udfs_salvage.proofs.node_printing.put_nodes.Goals as goal

pub loop-index-init : goal.loop-index-init
loop-index-init g c = puts_no_node _ _ c.args.nodes.now

pub loop-index-preserved : goal.loop-index-preserved
loop-index-preserved g c =
    puts_node c.args.nodes.now c.loop-index.index c.index-nodes-index.result c.loop-index-test.true c.index-nodes-index.is c.loop-index.invariant c.put_node.ensures
