use Rattle.std.proofs.Common.{ap, subst, false, ◌++◌}
use Rattle.std.specs.String.{string_bytes}
use Rattle.std.proofs.lemmas.Result.{err_from_is_err_and}
use Rattle.udfs_reading.specs.Writing.{Passed}
use Rattle.udfs_walk.specs.Bare.{node_with}
use Rattle.udfs_walk.specs.NodeFields.{NodeFields}
use Rattle.udfs_salvage.specs.Printing.{Stopped}
use Rattle.udfs_overview.specs.NodeLists.{listed}
use Rattle.udfs_salvage.proofs.PublicLaws.{passed_item, stopped_item}
use Rattle.udfs_overview.proofs.node_list.put_nodes.Goals as goal

pub returns-in_err-put_listed : goal.returns-in_err-put_listed
returns-in_err-put_listed g c =
    let W = g.W.Sink in
    let p = err_from_is_err_and c.from_residual.result c.from_residual.ensures.1 in
    rw (p.1, p.2) (stopped_item (listed c.args.form false) c.args.nodes.now c.loop-node.node-index c.node-item.result c.loop-node-test.true c.node-item.is c.loop-node.invariant
    (subst (λ s. Stopped (W.stream c.loop-node.sink) (W.stream c.put_listed.new.sink)
    (string_bytes c.loop-node.text ++ listed c.args.form false (node_with c.node-item.result s)) c.in_err-put_listed.field-0.0) (ap (λ (n : NodeFields). n.standing) c.node.view_is) c.in_err-put_listed.ensures))

pub loop-node-preserved : goal.loop-node-preserved
loop-node-preserved g c =
    let W = g.W.Sink in
    passed_item (listed c.args.form false) c.args.nodes.now c.loop-node.node-index c.node-item.result c.loop-node-test.true c.node-item.is c.loop-node.invariant
    (subst (λ s. Passed (W.stream c.loop-node.sink) (W.stream c.put_listed.new.sink)
    (string_bytes c.loop-node.text) (string_bytes c.put_listed.new.text) (listed c.args.form false (node_with c.node-item.result s))) (ap (λ (n : NodeFields). n.standing) c.node.view_is) c.in_ok-put_listed.ensures)
