use Rattle.std.proofs.Common.{◌∙◌, ap, map}
use Rattle.std.specs.Borrow.{Bor}
use Rattle.std.proofs.lemmas.List.{map_push}
use Rattle.udfs_walk.specs.NodeFields.{NodeFields}
use Rattle.udfs_overview.proofs.LostTallying.{nodes_more}
use Rattle.udfs_overview.proofs.lost_tallies.add_nodes.Goals as goal

pub loop-node-preserved : goal.loop-node-preserved
loop-node-preserved c = let now = λ (node : Bor NodeFields). node.now in
    nodes_more c.args.nodes.now c.loop-node.node-index c.node-item.result (map now c.args.found.now.items) (map now c.loop-node.found.items) (map now c.push.new.self.items) c.loop-node-test.true c.node-item.is
    c.loop-node.invariant (ap (map now) c.in_ok-push.ensures.items ∙ map_push now c.loop-node.found.items _)
