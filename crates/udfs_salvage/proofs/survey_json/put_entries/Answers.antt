use Rattle.std.proofs.Common.{◌++◌, ◌∷◌, []}
use Rattle.std.proofs.lemmas.Result.{err_from_is_err_and}
use Rattle.serde_json.specs.Written.{compact_text}
use Rattle.udfs_space.specs.Views.{view_by}
use Rattle.udfs_walk.specs.Bare.{full_entry}
use Rattle.udfs_walk.specs.declared.answers.Unnamed.{Unnamed}
use Rattle.udfs_salvage.specs.JsonNodes.{unnamed_data}
use Rattle.udfs_salvage.specs.JsonPieces.{more_values}
use Rattle.udfs_salvage.proofs.JsonPieces.{list_text}
use Rattle.udfs_salvage.proofs.Printed.{passed_three, stopped_first_of, stopped_second_of, stopped_third_of}
use Rattle.udfs_salvage.proofs.survey_json.put_entries.Goals as goal

pub returns-in_err-put_entry-clause-text : goal.returns-in_err-put_entry-clause-text
returns-in_err-put_entry-clause-text g c told =
    let p = err_from_is_err_and c.from_residual-in_err-put_entry.result c.from_residual-in_err-put_entry.ensures.1 in
    let f = λ (u : Unnamed). unnamed_data c.args.two (full_entry (view_by g.B.BlockStore.states c.args.view) u) in
    let x = c.in-Some.first.now in
    let xs = c.in-Some.rest.now in
    rw (p.1, p.2, c.in-Some.ensures.cases.0) (stopped_first_of _ (91 ∷ compact_text (f x)) (more_values f xs ++ 93 ∷ []) _ (list_text f x xs) (c.in_err-put_entry.ensures.text told))

pub returns-in_err-put_more_entries-clause-text : goal.returns-in_err-put_more_entries-clause-text
returns-in_err-put_more_entries-clause-text g c told =
    let p = err_from_is_err_and c.from_residual-in_err-put_more_entries.result c.from_residual-in_err-put_more_entries.ensures.1 in
    let f = λ (u : Unnamed). unnamed_data c.args.two (full_entry (view_by g.B.BlockStore.states c.args.view) u) in
    let x = c.in-Some.first.now in
    let xs = c.in-Some.rest.now in
    rw (p.1, p.2, c.in-Some.ensures.cases.0) (stopped_second_of (91 ∷ compact_text (f x)) (more_values f xs) (93 ∷ []) _ (list_text f x xs) (c.in_ok-put_entry.ensures.text told) (c.in_err-put_more_entries.ensures.text told))

pub returns-in_err-put_words-2-clause-text : goal.returns-in_err-put_words-2-clause-text
returns-in_err-put_words-2-clause-text g c told =
    let p = err_from_is_err_and c.from_residual-in_err-put_words-2.result c.from_residual-in_err-put_words-2.ensures.1 in
    let f = λ (u : Unnamed). unnamed_data c.args.two (full_entry (view_by g.B.BlockStore.states c.args.view) u) in
    let x = c.in-Some.first.now in
    let xs = c.in-Some.rest.now in
    rw (p.1, p.2, c.in-Some.ensures.cases.0) (stopped_third_of (91 ∷ compact_text (f x)) (more_values f xs) (93 ∷ []) _ (list_text f x xs) (c.in_ok-put_entry.ensures.text told) (c.in_ok-put_more_entries.ensures.text told) c.in_err-put_words-2.ensures)

pub returns-clause-text : goal.returns-clause-text
returns-clause-text g c told =
    let f = λ (u : Unnamed). unnamed_data c.args.two (full_entry (view_by g.B.BlockStore.states c.args.view) u) in
    let x = c.in-Some.first.now in
    let xs = c.in-Some.rest.now in
    rw c.in-Some.ensures.cases.0 (passed_three (91 ∷ compact_text (f x)) (more_values f xs) (93 ∷ []) _ (list_text f x xs) (c.in_ok-put_entry.ensures.text told) (c.in_ok-put_more_entries.ensures.text told) c.in_ok-put_words-2.ensures)
