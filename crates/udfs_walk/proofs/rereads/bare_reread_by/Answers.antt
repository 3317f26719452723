use Rattle.std.proofs.Common.{◌∙◌, ap, arith}
use Rattle.std.specs.Prelude.{◌++◌}
use Rattle.udfs_lattice.specs.Volumes.{ascending}
use Rattle.udfs_space.specs.Views.{view_by}
use Rattle.udfs_walk.specs.Gathering.{missing_at}
use Rattle.udfs_walk.proofs.BareRereads.{all_nodes, gathered_settled, node_more}
use Rattle.udfs_walk.proofs.rereads.bare_reread_by.Goals as goal

pub loop-node-preserved : goal.loop-node-preserved
loop-node-preserved g c =
    let v = view_by g.B.BlockStore.states c.args.view in record {
      blocks = λ told. node_more v c.args.nodes.now c.loop-node.node-index c.node-item.result c.loop-node.blocks.items c.gather.new.blocks.items c.settle-most.new.blocks.items
          (c.loop-node.invariant.blocks told) c.loop-node-test.true (c.in_ok-gather.ensures.more told ∙ ap (λ n. ascending (c.loop-node.blocks.items ++ missing_at v n)) c.node-item.is) c.settle-most.ensures;
      gathered = λ told. gathered_settled v _ c.gather.new.blocks.items c.settle-most.new.blocks.items c.settle-most.ensures (c.in_ok-gather.ensures.gathered told);
    }

pub returns-clause-value : goal.returns-clause-value
returns-clause-value g c told = c.sort_once.ensures ∙ all_nodes (view_by g.B.BlockStore.states c.args.view) c.args.nodes.now c.loop-node.node-index c.loop-node.blocks.items (omega arith) (c.loop-node.invariant.blocks told)
