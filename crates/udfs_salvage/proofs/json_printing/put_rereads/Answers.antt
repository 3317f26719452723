use Rattle.std.proofs.Common.{◌++◌, ◌∷◌, []}
use Rattle.std.specs.String.{string_bytes}
use Rattle.std.proofs.lemmas.Result.{err_from_is_err_and}
use Rattle.serde_json.specs.Written.{compact_text}
use Rattle.udfs_salvage.specs.JsonReports.{reread_data}
use Rattle.udfs_salvage.specs.JsonPieces.{more_values}
use Rattle.udfs_salvage.proofs.JsonPieces.{list_text}
use Rattle.udfs_salvage.proofs.Printed.{passes_three, stopped_first_of, stopped_second_of}
use Rattle.udfs_salvage.proofs.json_printing.put_rereads.Goals as goal

pub returns-in_err-put_reread : goal.returns-in_err-put_reread
returns-in_err-put_reread g c told =
    let p = err_from_is_err_and c.from_residual.result c.from_residual.ensures.1 in
    let f = reread_data (g.B.BlockStore.states c.args.blocks.now) in
    let x = c.in-Some.first.now in
    let xs = c.in-Some.rest.now in
    rw (p.1, p.2, c.in-Some.ensures.cases.0) (stopped_first_of _ (91 ∷ compact_text (f x)) (more_values f xs ++ 93 ∷ []) _ (list_text f x xs) (c.in_err-put_reread.ensures told))

pub returns-in_err-put_more_rereads : goal.returns-in_err-put_more_rereads
returns-in_err-put_more_rereads g c told =
    let p = err_from_is_err_and c.from_residual-in_err-put_more_rereads.result c.from_residual-in_err-put_more_rereads.ensures.1 in
    let f = reread_data (g.B.BlockStore.states c.args.blocks.now) in
    let x = c.in-Some.first.now in
    let xs = c.in-Some.rest.now in
    rw (p.1, p.2, c.in-Some.ensures.cases.0) (stopped_second_of (91 ∷ compact_text (f x)) (more_values f xs) (93 ∷ []) _ (list_text f x xs) (c.in_ok-put_reread.ensures told) (c.in_err-put_more_rereads.ensures told))

pub returns : goal.returns
returns g c told =
    let f = reread_data (g.B.BlockStore.states c.args.blocks.now) in
    let x = c.in-Some.first.now in
    let xs = c.in-Some.rest.now in
    let W = g.W.Sink in
    rw c.in-Some.ensures.cases.0 (passes_three (W.stream c.put_words-2.new.sink) (string_bytes c.put_words-2.new.text) (91 ∷ compact_text (f x)) (more_values f xs) (93 ∷ []) _ c.put_words-2.result (list_text f x xs) (c.in_ok-put_reread.ensures told) (c.in_ok-put_more_rereads.ensures told) c.put_words-2.ensures)
