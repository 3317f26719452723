use Rattle.std.proofs.Common.{◌≡◌, ◌∙◌, ◌+◌, ◌++◌, List, ap, arith, drop, length, map, subst}
use Rattle.std.specs.String.{string_bytes}
use Rattle.std.proofs.lemmas.Result.{err_from_is_err_and}
use Rattle.udfs_reading.specs.Writing.{Passed}
use Rattle.udfs_salvage.specs.Printing.{Stopped}
use Rattle.udfs_salvage.specs.StorePrinting.{leaves_as}
use Rattle.udfs_space.specs.Views.{view_by}
use Rattle.udfs_walk.specs.Bare.{full_node}
use Rattle.udfs_walk.specs.NodeFields.{NodeFields}
use Rattle.udfs_salvage.proofs.PublicLaws.{passed_item, stopped_item}
use Rattle.udfs_page.specs.Trees.{node_in, nodes_html, with_rest}
use Rattle.udfs_page.proofs.TreeNodes.{all_nodes, node_at, node_same, nodes_so_far, rest_within}
use Rattle.udfs_page.proofs.trees.put_nodes.Goals as goal

pub loop-index-preserved : goal.loop-index-preserved
loop-index-preserved g c =
    let W = g.W.Sink in
    let v = view_by g.B.BlockStore.states c.args.view in
    let ns = c.args.nodes.now in
    let i = c.loop-index.index in
    let n = c.index-nodes-index.result in
    let all = map (full_node v) ns in
    let item : NodeFields × List NodeFields = (full_node v n, drop (i + 1) all) in
    record {
      count = c.loop-index.invariant.count;
      text = λ told. passed_item (node_in v) (with_rest all) i item (rest_within v ns i c.loop-index-test.true) (node_at v ns i n item c.loop-index-test.true c.index-nodes-index.is) (c.loop-index.invariant.text told)
          (subst (Passed (W.stream c.loop-index.sink) (W.stream c.put_full_node.new.sink) (string_bytes c.loop-index.text) (string_bytes c.put_full_node.new.text)) (node_same v ns i n c.behind-rest.result.now c.behind-rest.ensures)
          (c.in_ok-put_full_node.ensures.printed told));
    }

pub returns-in_err-put_full_node-clause-printed : goal.returns-in_err-put_full_node-clause-printed
unfolding nodes_html
returns-in_err-put_full_node-clause-printed g c told =
    let W = g.W.Sink in
    let p = err_from_is_err_and c.from_residual.result c.from_residual.ensures.1 in
    let v = view_by g.B.BlockStore.states c.args.view in
    let ns = c.args.nodes.now in
    let i = c.loop-index.index in
    let n = c.index-nodes-index.result in
    let all = map (full_node v) ns in
    let item : NodeFields × List NodeFields = (full_node v n, drop (i + 1) all) in
    rw (p.1, p.2) (stopped_item (node_in v) (with_rest all) i item (rest_within v ns i c.loop-index-test.true) (node_at v ns i n item c.loop-index-test.true c.index-nodes-index.is) (c.loop-index.invariant.text told)
    (subst (λ t. Stopped (W.stream c.loop-index.sink) (W.stream c.put_full_node.new.sink) (string_bytes c.loop-index.text ++ t) (leaves_as c.in_err-put_full_node.field-0.0)) (node_same v ns i n c.behind-rest.result.now c.behind-rest.ensures)
    (c.in_err-put_full_node.ensures.printed told)))

pub returns-clause-printed : goal.returns-clause-printed
returns-clause-printed g c told =
    let W = g.W.Sink in
    let v = view_by g.B.BlockStore.states c.args.view in
    let ns = c.args.nodes.now in
    let end : c.loop-index.index ≡ length ns = omega (arith, c.loop-index-test.false, c.loop-index.auto.index-end) in
    subst (Passed (W.stream c.args.sink.now) (W.stream c.loop-index.sink) (string_bytes c.args.text.now) (string_bytes c.loop-index.text)) (ap (nodes_so_far v ns) end ∙ all_nodes v ns) (c.loop-index.invariant.text told)
