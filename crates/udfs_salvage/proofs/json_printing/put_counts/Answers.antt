use Rattle.std.proofs.Common.{◌++◌, ◌∷◌, []}
use Rattle.std.specs.String.{string_bytes}
use Rattle.std.proofs.lemmas.Result.{err_from_is_err_and}
use Rattle.serde_json.specs.Written.{compact_text}
use Rattle.udfs_salvage.specs.JsonNodes.{count}
use Rattle.udfs_salvage.specs.JsonPieces.{more_values}
use Rattle.udfs_salvage.proofs.JsonPieces.{list_text}
use Rattle.udfs_salvage.proofs.Printed.{passes_three, stopped_first_of, stopped_second_of}
use Rattle.udfs_salvage.proofs.json_printing.put_counts.Goals as goal

pub returns-in_err-put_count : goal.returns-in_err-put_count
returns-in_err-put_count g c =
    let p = err_from_is_err_and c.from_residual.result c.from_residual.ensures.1 in
    let f = count in
    let x = c.in-Some.first.now in
    let xs = c.in-Some.rest.now in
    rw (p.1, p.2, c.in-Some.ensures.cases.0) (stopped_first_of _ (91 ∷ compact_text (f x)) (more_values f xs ++ 93 ∷ []) _ (list_text f x xs) c.in_err-put_count.ensures)

pub returns-in_err-put_more_counts : goal.returns-in_err-put_more_counts
returns-in_err-put_more_counts g c =
    let p = err_from_is_err_and c.from_residual-in_err-put_more_counts.result c.from_residual-in_err-put_more_counts.ensures.1 in
    let f = count in
    let x = c.in-Some.first.now in
    let xs = c.in-Some.rest.now in
    rw (p.1, p.2, c.in-Some.ensures.cases.0) (stopped_second_of (91 ∷ compact_text (f x)) (more_values f xs) (93 ∷ []) _ (list_text f x xs) c.in_ok-put_count.ensures c.in_err-put_more_counts.ensures)

pub returns : goal.returns
returns g c =
    let f = count in
    let x = c.in-Some.first.now in
    let xs = c.in-Some.rest.now in
    let W = g.W.Sink in
    rw c.in-Some.ensures.cases.0 (passes_three (W.stream c.put_words-2.new.sink) (string_bytes c.put_words-2.new.text) (91 ∷ compact_text (f x)) (more_values f xs) (93 ∷ []) _ c.put_words-2.result (list_text f x xs) c.in_ok-put_count.ensures c.in_ok-put_more_counts.ensures c.put_words-2.ensures)
