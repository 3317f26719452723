use Rattle.std.proofs.Common.{◌++◌, ◌∷◌, []}
use Rattle.std.proofs.lemmas.Result.{err_from_is_err_and}
use Rattle.serde_json.specs.Written.{compact_text}
use Rattle.udfs_space.specs.Views.{view_by}
use Rattle.udfs_walk.specs.Bare.{full_node}
use Rattle.udfs_walk.specs.NodeFields.{NodeFields}
use Rattle.udfs_salvage.specs.JsonNodes.{node_in}
use Rattle.udfs_salvage.specs.JsonPieces.{more_values}
use Rattle.udfs_salvage.proofs.JsonPieces.{list_text}
use Rattle.udfs_salvage.proofs.Printed.{passed_three, stopped_first_of, stopped_second_of, stopped_third_of}
use Rattle.udfs_salvage.proofs.survey_json.put_nodes.Goals as goal

pub returns-in_err-put_node-clause-text : goal.returns-in_err-put_node-clause-text
returns-in_err-put_node-clause-text g c told =
    let p = err_from_is_err_and c.from_residual-in_err-put_node.result c.from_residual-in_err-put_node.ensures.1 in
    let f = λ (n : NodeFields). node_in c.args.profile (view_by g.B.BlockStore.states c.args.view) (full_node (view_by g.B.BlockStore.states c.args.view) n) in
    let x = c.in-Some.first.now in
    let xs = c.in-Some.rest.now in
    rw (p.1, p.2, c.in-Some.ensures.cases.0) (stopped_first_of _ (91 ∷ compact_text (f x)) (more_values f xs ++ 93 ∷ []) _ (list_text f x xs) (c.in_err-put_node.ensures.text told))

pub returns-in_err-put_more_nodes-clause-text : goal.returns-in_err-put_more_nodes-clause-text
returns-in_err-put_more_nodes-clause-text g c told =
    let p = err_from_is_err_and c.from_residual-in_err-put_more_nodes.result c.from_residual-in_err-put_more_nodes.ensures.1 in
    let f = λ (n : NodeFields). node_in c.args.profile (view_by g.B.BlockStore.states c.args.view) (full_node (view_by g.B.BlockStore.states c.args.view) n) in
    let x = c.in-Some.first.now in
    let xs = c.in-Some.rest.now in
    rw (p.1, p.2, c.in-Some.ensures.cases.0) (stopped_second_of (91 ∷ compact_text (f x)) (more_values f xs) (93 ∷ []) _ (list_text f x xs) (c.in_ok-put_node.ensures.text told) (c.in_err-put_more_nodes.ensures.text told))

pub returns-in_err-put_words-2-clause-text : goal.returns-in_err-put_words-2-clause-text
returns-in_err-put_words-2-clause-text g c told =
    let p = err_from_is_err_and c.from_residual-in_err-put_words-2.result c.from_residual-in_err-put_words-2.ensures.1 in
    let f = λ (n : NodeFields). node_in c.args.profile (view_by g.B.BlockStore.states c.args.view) (full_node (view_by g.B.BlockStore.states c.args.view) n) in
    let x = c.in-Some.first.now in
    let xs = c.in-Some.rest.now in
    rw (p.1, p.2, c.in-Some.ensures.cases.0) (stopped_third_of (91 ∷ compact_text (f x)) (more_values f xs) (93 ∷ []) _ (list_text f x xs) (c.in_ok-put_node.ensures.text told) (c.in_ok-put_more_nodes.ensures.text told) c.in_err-put_words-2.ensures)

pub returns-clause-text : goal.returns-clause-text
returns-clause-text g c told =
    let f = λ (n : NodeFields). node_in c.args.profile (view_by g.B.BlockStore.states c.args.view) (full_node (view_by g.B.BlockStore.states c.args.view) n) in
    let x = c.in-Some.first.now in
    let xs = c.in-Some.rest.now in
    rw c.in-Some.ensures.cases.0 (passed_three (91 ∷ compact_text (f x)) (more_values f xs) (93 ∷ []) _ (list_text f x xs) (c.in_ok-put_node.ensures.text told) (c.in_ok-put_more_nodes.ensures.text told) c.in_ok-put_words-2.ensures)
