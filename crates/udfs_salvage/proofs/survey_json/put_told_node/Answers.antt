use Rattle.std.proofs.Common.{◌≡◌, ◌++◌, ◌∙◌, ap}
use Rattle.std.specs.String.{string_bytes}
use Rattle.std.proofs.lemmas.Result.{err_from_is_err_and}
use Rattle.udfs_walk.specs.NodeFields.{NodeFields}
use Rattle.udfs_salvage.specs.JsonPieces.{node_end, node_front, told_piece}
use Rattle.udfs_salvage.proofs.JsonPieces.{told_by_fields}
use Rattle.udfs_salvage.proofs.Printed.{passes_three, stopped_first_of, stopped_second_of}
use Rattle.udfs_salvage.proofs.survey_json.put_told_node.Goals as goal

pub returns-in_err-put_node_front : goal.returns-in_err-put_node_front
returns-in_err-put_node_front g c =
    let p = err_from_is_err_and c.from_residual.result c.from_residual.ensures.1 in
    let n = c.node.inside in
    let s = c.args.full.now in
    let end = node_end c.args.tail c.args.node.now in
    let pieces = told_by_fields c.args.front.now c.args.node.now n.hidden n.kind s end (ap (λ (m : NodeFields). m.hidden) c.node.view_is) (ap (λ (m : NodeFields). m.kind) c.node.view_is) in
    rw (p.1, p.2) (stopped_first_of _ (c.args.front.now ++ node_front n.hidden) (told_piece s n.kind ++ end) _ pieces c.in_err-put_node_front.ensures)

pub returns-in_err-put_told : goal.returns-in_err-put_told
returns-in_err-put_told g c =
    let p = err_from_is_err_and c.from_residual-in_err-put_told.result c.from_residual-in_err-put_told.ensures.1 in
    let n = c.node.inside in
    let s = c.args.full.now in
    let end = node_end c.args.tail c.args.node.now in
    let pieces = told_by_fields c.args.front.now c.args.node.now n.hidden n.kind s end (ap (λ (m : NodeFields). m.hidden) c.node.view_is) (ap (λ (m : NodeFields). m.kind) c.node.view_is) in
    rw (p.1, p.2) (stopped_second_of (c.args.front.now ++ node_front n.hidden) (told_piece s n.kind) end _ pieces c.in_ok-put_node_front.ensures c.in_err-put_told.ensures)

pub returns : goal.returns
returns g c =
    let W = g.W.Sink in
    let n = c.node.inside in
    let s = c.args.full.now in
    let end = node_end c.args.tail c.args.node.now in
    let pieces = told_by_fields c.args.front.now c.args.node.now n.hidden n.kind s end (ap (λ (m : NodeFields). m.hidden) c.node.view_is) (ap (λ (m : NodeFields). m.kind) c.node.view_is) in
    passes_three (W.stream c.put_node_end.new.sink) (string_bytes c.put_node_end.new.text) (c.args.front.now ++ node_front n.hidden) (told_piece s n.kind) end _ c.put_node_end.result
    pieces c.in_ok-put_node_front.ensures c.in_ok-put_told.ensures c.put_node_end.ensures
